use Rattle.std.proofs.Common.{sym, subst, ◌∙◌, [], ◌∷◌}
use Rattle.std.proofs.lemmas.List.{append-nil}
use Rattle.wit_graph_parts.specs.Interfaces.{Interfaces, HasGrown, AreAdded}
use Rattle.wit_graph_parts.proofs.Rows.{added_one, grown_none}
use Rattle.wit_graph_parts.proofs.interfaces.Interfaces.push.Goals as goal

pub returns-in_err-row-clause-grown : goal.returns-in_err-row-clause-grown
returns-in_err-row-clause-grown c = grown_none c.args.self.now

pub returns-in_err-alloc-clause-grown : goal.returns-in_err-alloc-clause-grown
returns-in_err-alloc-clause-grown c =
    let new : Interfaces = record { all = c.alloc.new.self; uses = c.self.inside.uses.items } in
    subst (λ (t : Interfaces). HasGrown t new) c.self.view_is (record { all = []; all_are = c.in_err-alloc.ensures.err ∙ sym (append-nil c.self.inside.all); uses = []; uses_are = sym (append-nil c.self.inside.uses.items) })

pub returns-in_err-push-clause-grown : goal.returns-in_err-push-clause-grown
returns-in_err-push-clause-grown c =
    let new : Interfaces = record { all = c.alloc.new.self; uses = c.push.new.self.items } in
    subst (λ (t : Interfaces). HasGrown t new) c.self.view_is (record { all = c.args.interface ∷ []; all_are = c.in_ok-alloc.ensures.ok.1; uses = []; uses_are = c.in_err-push.ensures.items ∙ sym (append-nil c.self.inside.uses.items) })

pub returns-clause-ok : goal.returns-clause-ok
returns-clause-ok c =
    let new : Interfaces = record { all = c.alloc.new.self; uses = c.push.new.self.items } in
    let old : Interfaces = record { all = c.self.inside.all; uses = c.self.inside.uses.items } in
    subst (λ (t : Interfaces). AreAdded c.args.types.now (c.args.interface ∷ []) t new) c.self.view_is
    (added_one c.args.types.now c.args.interface c.in_ok-row.row old new c.in_ok-row.ensures c.in_ok-alloc.ensures.ok.1 c.in_ok-push.ensures.items)

pub returns-clause-grown : goal.returns-clause-grown
returns-clause-grown c =
    let new : Interfaces = record { all = c.alloc.new.self; uses = c.push.new.self.items } in
    subst (λ (t : Interfaces). HasGrown t new) c.self.view_is (record { all = c.args.interface ∷ []; all_are = c.in_ok-alloc.ensures.ok.1; uses = c.in_ok-row.row ∷ []; uses_are = c.in_ok-push.ensures.items })
