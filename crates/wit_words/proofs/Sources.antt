-- Texts behind others.
use Rattle.std.proofs.Common.{◌≡◌, ℕ, ◌+◌, ◌-◌, ◌<◌, ◌≤◌, ◌⊎◌, true, List, [], ◌∷◌, ◌++◌, length, map, take, drop, get_or, sym, ap, ◌∙◌, arith, inl, inr, refl, Result, Ok, Err}
use Rattle.std.specs.Prelude.{not, IfOk}
use Rattle.std.specs.List.{list_all}
use Rattle.std.proofs.lemmas.List.{take_all, take_more, take-append-drop, length-drop}
use Rattle.wit_words.specs.declared.source_map.Source.{Source}
use Rattle.wit_words.specs.declared.source_map.Span.{Span}
use Rattle.wit_words.specs.declared.fault.Rule.{Rule}
use Rattle.wit_words.specs.declared.fault.SyntaxFault.{SyntaxFault}
use Rattle.wit_words.specs.declared.fault.SyntaxFault.TheVariants.{OutOfMemory, TooLarge, Broken}
use Rattle.wit_words.specs.Sources.{SourceText, source_text, total, is_line_feed, IsLastLine, IsFaultLine}

-- texts behind others have as many bytes more as they have together
pub total_behind : (ss rs : List Source) → total (map source_text (ss ++ rs)) ≡ total (map source_text ss) + total (map source_text rs)
total_behind [] rs = omega arith
total_behind (s ∷ ss) rs = omega (arith, total_behind ss rs)

-- ---- the last line

module _ (front : List ℕ) (at : ℕ) (le : at ≤ length front) (none : list_all (λ b. not (is_line_feed b)) (drop at front) ≡ true) where
  rest : take (length front - at) (drop at front) ≡ drop at front
  rest = take_all (length front - at) (drop at front) (omega (arith, length-drop at front))

  abbrev last : List ℕ
  last = take (length front - at) (drop at front)

  with_ends : (take at front ≡ []) ⊎ ((lines : List ℕ) × (take at front ≡ lines ++ 10 ∷ [])) → IsLastLine front last
  with_ends ends = record { before = take at front; parts = sym (take-append-drop at front) ∙ ap (λ y. take at front ++ y) (sym rest); none = ap (list_all (λ b. not (is_line_feed b))) rest ∙ none; ends = ends }

  pub last_of_all : at ≡ 0 → IsLastLine front last
  last_of_all zero_is = with_ends (inl (ap (λ n. take n front) zero_is))

  pub last_behind : (d : ℕ) → 0 < at → get_or front (at - 1) d ≡ 10 → IsLastLine front last
  last_behind d some is =
      let more : take ((at - 1) + 1) front ≡ take (at - 1) front ++ get_or front (at - 1) d ∷ [] = take_more front (at - 1) d (omega arith) in
      let same : (at - 1) + 1 ≡ at = omega arith in
      with_ends (inr (take (at - 1) front, ap (λ n. take n front) (sym same) ∙ more ∙ ap (λ b. take (at - 1) front ++ b ∷ []) is))

-- ---- lines of faults

-- a fault without a place may have any line
pub placeless : (texts : List SourceText) (f : SyntaxFault) → ((rule : Rule) (at : Span) → f ≡ Broken rule at → ⊥) → (line : List ℕ) → IsFaultLine texts f line
placeless texts OutOfMemory none line = tt
placeless texts TooLarge none line = tt
placeless texts (Broken rule at) none line = absurd (none rule at refl)

-- what holds of all holds of what a call answers
pub in_any_case : {T E : Type 0} (r : Result T E) (P : T → Type 0) → ((x : T) → P x) → IfOk r P
in_any_case (Ok x) P all = all x
in_any_case (Err e) P all = tt
