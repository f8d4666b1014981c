-- Walks one after the other.
use Rattle.std.proofs.Common.{◌≡◌, ℕ, Bool, List, ◌++◌, sym, ap, ◌∙◌}
use Rattle.wit_words.specs.declared.source_map.Span.{Span}
use Rattle.wit_offsets.specs.declared.shift.Shift.{Shift}
use Rattle.wit_offsets.specs.Walks.{Walks, noted, span_within}
use Rattle.wit_offsets.proofs.Lists.{noted_append}

-- from here to there these places are walked over
pub record Notes (before : Shift) (spans : List Span) (after : Shift) : Type 0 where
  pub offset : after.offset ≡ before.offset
  pub passes : after.passes ≡ noted before.offset before.passes spans

pub notes_both : (a b c : Shift) (xs ys : List Span) → Notes a xs b → Notes b ys c → Notes a (xs ++ ys) c
notes_both a b c xs ys first second = record {
  offset = second.offset ∙ first.offset;
  passes = second.passes ∙ ap (λ (n : ℕ). noted n b.passes ys) first.offset ∙ ap (λ (p : Bool). noted a.offset p ys) first.passes ∙ sym (noted_append a.offset xs ys a.passes);
}

module _ {X : Type 0} (by : (Span → Span) → X → X) (spans : X → List Span) where
  pub notes_of : (before after : Shift) (old new : X) → Walks by spans before old after new → Notes before (spans old) after
  notes_of before after old new w = record { offset = w.offset; passes = w.passes }

  -- what is walked over later goes as far
  pub moved_later : (a b c : Shift) (old new x : X) → b.offset ≡ a.offset → old ≡ x → Walks by spans b old c new → new ≡ by (span_within a.offset) x
  moved_later a b c old new x offset same w = w.moved ∙ ap (λ (n : ℕ). by (span_within n) old) offset ∙ ap (by (span_within a.offset)) same
