use Rattle.std.proofs.Common.{◌≡◌, ◌<◌, ◌≤◌, ◌∷◌, ◌++◌, [], map, length, rules}
use Rattle.std.proofs.lemmas.Result.{err_from_is_err_and}
use Rattle.std.proofs.lemmas.List.{map_push}
use Rattle.wit_productions.proofs.Loops.{all_ends, all_fails, all_goes_on}
use Rattle.wit_productions.proofs.list.all.Goals as goal

pub returns-in_err-parse : goal.returns-in_err-parse
returns-in_err-parse g c =
    let p = err_from_is_err_and c.from_residual.result c.from_residual.ensures.1 in
    let some : 0 < length c.loop-alloc.tokens = search rules in
    rw (p.1, p.2) (all_fails g.T.Part.production c.requires (map g.T.Part.tree c.loop-alloc.found.items) c.loop-alloc.tokens _ c.loop-alloc.invariant c.in_err-parse.field-0.0 some c.in_err-parse.ensures)

pub loop-alloc-smaller : goal.loop-alloc-smaller
loop-alloc-smaller g c = c.requires c.loop-alloc.tokens (g.T.Part.tree c.in_ok-parse.field-0) c.parse.new.tokens c.in_ok-parse.ensures

pub loop-alloc-preserved : goal.loop-alloc-preserved
loop-alloc-preserved g c =
    let some : 0 < length c.loop-alloc.tokens = search rules in
    let more : map g.T.Part.tree c.push.new.self.items ≡ map g.T.Part.tree c.loop-alloc.found.items ++ g.T.Part.tree c.in_ok-parse.field-0 ∷ [] = rw c.in_ok-push.ensures.items (map_push _ c.loop-alloc.found.items c.in_ok-parse.field-0) in
    rw more (all_goes_on g.T.Part.production c.requires (map g.T.Part.tree c.loop-alloc.found.items) c.loop-alloc.tokens _ c.loop-alloc.invariant some (g.T.Part.tree c.in_ok-parse.field-0) c.parse.new.tokens c.in_ok-parse.ensures)

pub returns : goal.returns
returns g c =
    let none : length c.loop-alloc.tokens ≤ 0 = search rules in
    all_ends g.T.Part.production c.requires (map g.T.Part.tree c.loop-alloc.found.items) c.loop-alloc.tokens _ c.loop-alloc.invariant none
