use Rattle.std.proofs.Common.{map, inl, refl, ap, ◌∙◌, [], ◌∷◌, arith}
use Rattle.std.proofs.lemmas.List.{map-append}
use Rattle.link_table.proofs.Walks.{entry_is_none, exported_next, all_functions_next, all_functions_all}
use Rattle.link_table.proofs.exports.add_exported.Goals as goal

pub returns-in_default-clause-cause : goal.returns-in_default-clause-cause
returns-in_default-clause-cause c =
    let size = c.len-entry-end.ensures.len in
    let lt = c.loop-entry-test.true in
    inl (refl, entry_is_none c.args.world.now.exports.entries c.loop-entry.entry (omega (arith, size, lt)) c.in_default.ensures)

pub loop-entry-preserved : goal.loop-entry-preserved
loop-entry-preserved c =
    let es = c.args.world.now.exports.entries in
    let f = c.in-Some.function.now in (
      exported_next es c.loop-entry.entry f (map (λ g. g.now) c.args.functions.now.items) (map (λ g. g.now) c.loop-entry.functions.items) _ c.in-Some.ensures c.loop-entry.invariant.0
          (ap (map (λ g. g.now)) c.in_ok-push.ensures.items ∙ map-append (λ g. g.now) c.loop-entry.functions.items (c.in-Some.function ∷ [])),
      all_functions_next es c.loop-entry.entry f c.in-Some.ensures c.loop-entry.invariant.1,
    )

pub returns-clause-only : goal.returns-clause-only
returns-clause-only c =
    let size = c.len-entry-end.ensures.len in
    let past = c.loop-entry-test.false in
    all_functions_all c.args.world.now.exports.entries c.loop-entry.entry (omega (arith, size, past)) c.loop-entry.invariant.1
