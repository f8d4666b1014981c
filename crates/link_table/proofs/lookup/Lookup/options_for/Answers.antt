use Rattle.std.proofs.Common.{◌≡◌, true, false, inr, refl, sym, ◌∙◌}
use Rattle.std.specs.Prelude.{option_and_then}
use Rattle.std.proofs.lemmas.Result.{err_from_is_err_and}
use Rattle.link_table.specs.Linking.{linking_value}
use Rattle.link_table.specs.Options.{IsMemoryIf, IsReallocIf}
use Rattle.link_table.specs.View.{name_at}
use Rattle.link_table.proofs.Found.{memory_not_missing, memory_named, realloc_named, encoding_asked}
use Rattle.link_table.proofs.lookup.Lookup.options_for.Goals.{then-required+in_ok-memory, else-required, then-required-2+in_ok-realloc, else-required-2}
use Rattle.link_table.proofs.lookup.Lookup.options_for.Goals as goal

pub returns-in_err-realloc-clause-cause : goal.returns-in_err-realloc-clause-cause
returns-in_err-realloc-clause-cause c =
    let l = linking_value c.args.self.now.linking in
    let moved = err_from_is_err_and c.from_residual-in_err-realloc.result c.from_residual-in_err-realloc.ensures.1 in
    rw (moved.1, moved.2)
    (inr (
      c.if-required-2.true,
      λ lacks. elim c.if-required.branch as (λ _. ⊥) [
        | then-required+in_ok-memory w ↦ memory_not_missing l w.in_ok-memory.field-0 w.in_ok-memory.ensures.has lacks.1
        | else-required w ↦ absurd (let e : true ≡ false = sym lacks.0 ∙ w.if-required.false in cc)
      ],
      c.in_err-realloc.ensures.cause,
    ))

pub returns-clause-options : goal.returns-clause-options
returns-clause-options c =
    let l = linking_value c.args.self.now.linking in
    let r = c.args.required in
    record {
      memory = elim c.if-required.branch as (λ _. IsMemoryIf l r.memory (option_and_then (name_at l.main.exports) c.if-required.memory)) [
        | then-required+in_ok-memory w ↦ rw (w.if-required.true, w.memory-is) (memory_named l w.in_ok-memory.field-0 w.in_ok-memory.ensures.has)
        | else-required w ↦ rw (w.if-required.false, w.memory-is) refl
      ];
      realloc = elim c.if-required-2.branch as (λ _. IsReallocIf l c.args.variant r.realloc (option_and_then (name_at l.main.exports) c.if-required-2.realloc)) [
        | then-required-2+in_ok-realloc w ↦ rw (w.if-required-2.true, w.realloc-is) (realloc_named l c.args.variant w.in_ok-realloc.field-0 w.in_ok-realloc.ensures.has)
        | else-required-2 w ↦ rw (w.if-required-2.false, w.realloc-is) refl
      ];
      encoding = c.then_some-encoding.ensures ∙ encoding_asked r.encoding l.encoding;
    }
