-- What an answer that is an enum says. Document 01, "Which shape goes where": any answer that is an enum has a definition that gives this paper's number and
-- values for each of the enum's cases. It stands beside the enum: `of_wrote` here, `of_written` in writer, `of_in_force` in book, `of_time` in times.
use Rattle.std.specs.Prelude.{ℕ, List}

-- a refusal's number and detail, 0 and 0 where it is none, and the values
pub record Said : Type 0 where
  pub number : ℕ
  pub detail : ℕ
  pub values : List ℕ

abbrev pub said : ℕ → ℕ → List ℕ → Said
said n d vs = record { number = n; detail = d; values = vs }
