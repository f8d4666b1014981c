use Rattle.std.proofs.Common.{subst, sym, List}
use Rattle.wit_words.specs.declared.source_map.Span.{Span}
use Rattle.wit_types.specs.WorldKey.{key_eq, key_eq-equivalence}
use Rattle.wit_sides.specs.Sides.{AreUnited}
use Rattle.wit_sides.specs.Sides as spec
use Rattle.wit_sides.proofs.United.{are_united}
use Rattle.wit_sides.proofs.sides.joined_side.Goals as goal

pub returns-clause-ok : goal.returns-clause-ok
returns-clause-ok c = record {
  entries = subst (AreUnited key_eq c.args.entries.items) (sym c.in_ok-united.ensures) (are_united key_eq key_eq-equivalence c.args.entries.items);
  distinct = subst (λ (es : List spec.Entry). (at : Span) → spec.IsClash es at → ⊥) c.as_slice.ensures.value c.in_ok-check_names.ensures.ok;
}
