-- THE THEOREM: request A4 of document 02. Assumes nothing.
use Prim.Native.Nat.{ℕ}
use Rattle.book.specs.Places.{shelf, formed_book}
use Rattle.book.specs.declared.Book.{Book}
use Rattle.book_theorems.proofs.Lift.{formed_fits}
use Rattle.book_theorems.proofs.Theorems.{kept}
use Rattle.demands.specs.Request4.{Request4}
use Rattle.saved.specs.Saved.{text_of, has_partial, save_refusals, save_of, of_saved}
use Rattle.saved.specs.Saved.{To, Refused}
use Rattle.saved_theorems.proofs.Exact.{one_order}
use Rattle.saved_theorems.proofs.Judged.{judged_above}
use Rattle.saved_theorems.proofs.Refused.{refused, refused_save}
use Rattle.saved_theorems.proofs.Removed.{removed}
use Rattle.saved_theorems.proofs.Runs.{save_taken, read_back_lem, one_text, reached_fresh, turns_alike}
use Rattle.saved_theorems.proofs.Small.{text_small}
use Rattle.saved_theorems.specs.Restart.{calls_of}
use Rattle.text.specs.Refusals.{first_holding}
use Rattle.text.specs.Said.{said}
use lib.Dec.{ltb}
use lib.ListN.{length}
use mathlib.Core.Bool.{Bool, true, false, not, cond}
use mathlib.Core.List.{[], ◌∷◌}
use mathlib.Core.Path.{◌≡◌, refl}

-- what is said, whichever of the three refusals holds
says : (size : ℕ) (f partial small : Bool)
    → of_saved (cond (not f) (Refused 20 0) (cond partial (Refused 52 0) (cond small (Refused 11 size) (To size))))
    ≡ cond (not f) (said 20 0 []) (cond partial (said 52 0 []) (cond small (said 11 size []) (said 0 0 (size ∷ []))))
says size false partial small = refl
says size true true small = refl
says size true false true = refl
says size true false false = refl

save_says : (b : Book) (room : ℕ)
    → of_saved (save_of b room) ≡ first_holding (λ n d. said n d []) (said 0 0 (length (text_of (shelf b)) ∷ [])) (save_refusals b room)
unfolding save_of
save_says b room = says (length (text_of (shelf b))) (formed_book b) (has_partial b) (ltb room (length (text_of (shelf b))))

pub request_4 : Request4
request_4 =
    record {
      taken_save = λ b out n e. let t = save_taken b out n e in (t.well, t.length_is, t.front, t.rest_stays);
      read_back = read_back_lem;
      one_text = one_text;
      counts = λ unit ts e t. ((turns_alike ts _ (reached_fresh unit e) t).run_is, kept unit (calls_of ts) e);
      left_out = removed;
      in_order = λ b room. refl;
      save_says = save_says;
      refused_save = refused_save;
      refused = refused;
      judged_above = judged_above;
      one_order = one_order;
      book_small = λ b h e. text_small (shelf b) (formed_fits b h e);
    }
