-- What a call's answer says tells which answer it is. Assumes nothing.
use Rattle.std.specs.Prelude.{ℕ, None, Option, Some, Result, Ok, Err}
use Rattle.book.specs.Answers.{Outcome, outcome_by, InForce, Refused, Nothing, Number, in_force_by, told_in_force, Asked, asked_by}
use Rattle.book.specs.Answers.{Panel as Show, Unshown, Shows, told_panel, Shown, shown_by}
use Rattle.book.specs.declared.Answered.{Answered}
use Rattle.book.specs.declared.Panel.{Panel}
use Rattle.refusal.proofs.Told.{same_result}
use Rattle.refusal.specs.Results.{number_in, detail_in}
use Rattle.refusal.specs.declared.Refusal.{Refusal}
use mathlib.Core.Path.{◌≡◌, refl, sym, ap, ◌∙◌}

pub one_outcome : (x y : Answered Unit) → outcome_by x ≡ outcome_by y → x ≡ y
one_outcome x y e =
    let a : x.answer ≡ y.answer =
    same_result x.answer y.answer (ap (λ (o : Outcome). o.number) e) (ap (λ (o : Outcome). o.detail) e) (λ u v p q. refl) in
    let b = ap (λ (o : Outcome). o.book) e in
    λ i. record { answer = a i; book = b i }

-- ---- which order is in force

abbrev number_of : InForce → ℕ
number_of (Refused n d) = n
number_of Nothing = 0
number_of (Number n) = 0

abbrev detail_of : InForce → ℕ
detail_of (Refused n d) = d
detail_of Nothing = 0
detail_of (Number n) = 0

abbrev found_as : InForce → Option ℕ
found_as (Refused n d) = None
found_as Nothing = None
found_as (Number n) = Some n

number_told : (x : Result (Option ℕ) Refusal) → number_of (told_in_force x) ≡ number_in x
number_told (Ok None) = refl
number_told (Ok (Some n)) = refl
number_told (Err e) = refl

detail_told : (x : Result (Option ℕ) Refusal) → detail_of (told_in_force x) ≡ detail_in x
detail_told (Ok None) = refl
detail_told (Ok (Some n)) = refl
detail_told (Err e) = refl

found_told : (u : Option ℕ) → found_as (in_force_by u) ≡ u
found_told None = refl
found_told (Some n) = refl

one_in_force : (x y : Result (Option ℕ) Refusal) → told_in_force x ≡ told_in_force y → x ≡ y
one_in_force x y e =
    same_result x y (sym (number_told x) ∙ ap number_of e ∙ number_told y) (sym (detail_told x) ∙ ap detail_of e ∙ detail_told y)
    (λ u v p q. sym (found_told u) ∙ ap found_as (sym (ap told_in_force p) ∙ e ∙ ap told_in_force q) ∙ found_told v)

pub one_asked : (x y : Answered (Option ℕ)) → asked_by x ≡ asked_by y → x ≡ y
one_asked x y e =
    let a = one_in_force x.answer y.answer (ap (λ (o : Asked). o.answer) e) in
    let b = ap (λ (o : Asked). o.book) e in
    λ i. record { answer = a i; book = b i }

-- ---- the panel

abbrev unshown_number : Show → ℕ
unshown_number (Unshown n d) = n
unshown_number (Shows h x) = 0

abbrev unshown_detail : Show → ℕ
unshown_detail (Unshown n d) = d
unshown_detail (Shows h x) = 0

abbrev panel_as : Show → Panel
panel_as (Unshown n d) = record { held = 0; next = 0 }
panel_as (Shows h x) = record { held = h; next = x }

show_number : (x : Result Panel Refusal) → unshown_number (told_panel x) ≡ number_in x
show_number (Ok x) = refl
show_number (Err e) = refl

show_detail : (x : Result Panel Refusal) → unshown_detail (told_panel x) ≡ detail_in x
show_detail (Ok x) = refl
show_detail (Err e) = refl

one_panel : (x y : Result Panel Refusal) → told_panel x ≡ told_panel y → x ≡ y
one_panel x y e =
    same_result x y (sym (show_number x) ∙ ap unshown_number e ∙ show_number y) (sym (show_detail x) ∙ ap unshown_detail e ∙ show_detail y)
    (λ u v p q. ap panel_as (sym (ap told_panel p) ∙ e ∙ ap told_panel q))

pub one_shown : (x y : Answered Panel) → shown_by x ≡ shown_by y → x ≡ y
one_shown x y e =
    let a = one_panel x.answer y.answer (ap (λ (o : Shown). o.answer) e) in
    let b = ap (λ (o : Shown). o.book) e in
    λ i. record { answer = a i; book = b i }
