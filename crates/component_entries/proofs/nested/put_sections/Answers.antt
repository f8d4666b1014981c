use Rattle.std.proofs.Common.{rules, ◌++◌, List, map, length, ap, sym, subst, ◌∙◌, arith}
use Rattle.std.proofs.lemmas.List.{length-map}
use Rattle.std.proofs.lemmas.Result.{err_from_is_err_and}
use Rattle.component_entries.specs.Runs.{front, vector_bytes, IsVector}
use Rattle.component_entries.specs.Entries.{EntryValue, entry_value, entry_behind, kind_of}
use Rattle.component_entries.specs.Nested.{entry_byte, alone}
use Rattle.component_entries.proofs.Neighbours.{rest_of}
use Rattle.component_entries.proofs.NestedSections.{sections_go_on, sections_stop}
use Rattle.component_entries.proofs.nested.put_sections.Goals as goal

abbrev IsFirst : List EntryValue → Type 0
IsFirst es = IsVector entry_byte (λ b. entry_behind (kind_of b)) (front entry_byte alone es)

pub returns-in_err-at-clause-large : goal.returns-in_err-at-clause-large
returns-in_err-at-clause-large c =
    let xs = c.args.entries.now in
    let p = err_from_is_err_and c.from_residual.result c.from_residual.ensures.1 in
    λ e. sections_stop (map entry_value xs) c.loop-at.at c.args.out.now.items c.loop-at.out.items c.loop-at.invariant.0 (omega (arith, length-map xs entry_value))
    (λ h. c.in_err-at.ensures.large (cc (p.1, p.2, e)) (subst IsFirst (sym (rest_of entry_value xs c.loop-at.at)) h))

pub loop-at-preserved : goal.loop-at-preserved
loop-at-preserved c =
    let xs = c.args.entries.now in
    let rest = rest_of entry_value xs c.loop-at.at in (
      sections_go_on (map entry_value xs) c.loop-at.at c.args.out.now.items c.loop-at.out.items c.loop-at.invariant.0 (omega (arith, length-map xs entry_value)) c.in_ok-at.field-0
          (c.in_ok-at.ensures.count ∙ ap (λ r. length (front entry_byte alone r)) rest)
          c.put_vector.new.out.items
          (c.in_ok-at.ensures.bytes ∙ ap (λ r. c.loop-at.out.items ++ vector_bytes entry_byte (λ b. entry_behind (kind_of b)) (front entry_byte alone r)) rest)
          (subst IsFirst rest c.in_ok-at.ensures.typed),
      search rules,
    )
