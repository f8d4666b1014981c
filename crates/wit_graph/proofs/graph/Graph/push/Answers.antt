use Rattle.std.proofs.Common.{length, subst}
use Rattle.std.proofs.lemmas.Result.{err_from_is_err_and, IfErr-weaker}
use Rattle.wit_types.specs.contracts.«package».PackageNamePartialEq.TheImpl.{eq-value as package_eq}
use Rattle.wit_moves.specs.View.{owners}
use Rattle.wit_finding.specs.Foreign.{AreForeignPlaces}
use Rattle.wit_plans.specs.Plans.{IsPlanned, IsPlanCause}
use Rattle.wit_graph.specs.Graph.{Graph, AreWhole, items_of, sizes}
use Rattle.wit_graph_parts.specs.Own.{parts}
use Rattle.wit_graph.specs.Push.{IsPartsCause, IsPushCause}
use Rattle.wit_graph.proofs.Finishing.{found_below, parts_are, ready, plan_refused, put_refused}
use Rattle.wit_graph.proofs.graph.Graph.push.Goals as goal

pub plan_in-requires : goal.plan_in-requires
plan_in-requires c = (found_below package_eq.it c.args.features.now (record { tables = c.self.inside.tables; names = c.self.inside.names.entries }) c.args.package c.requires c.self.invariant.whole (owners c.in_ok-foreign.foreign) c.in_ok-foreign.ensures.ok c.law_found_are_there.ensures).0

pub returns-in_err-plan-clause-cause : goal.returns-in_err-plan-clause-cause
returns-in_err-plan-clause-cause c =
    let p = err_from_is_err_and c.from_residual-in_err-plan.result c.from_residual-in_err-plan.ensures.1 in
    rw (p.1, p.2) (plan_refused package_eq.it c.args.features.now c.args.self.now c.args.package c.requires (subst (λ (g : Graph). AreWhole g.tables) c.self.view_is c.self.invariant.whole) (owners c.in_ok-foreign.foreign) (subst (λ (g : Graph). AreForeignPlaces package_eq.it c.args.features.now g.names g.tables.packages c.args.package c.in_ok-foreign.foreign.interfaces c.in_ok-foreign.foreign.worlds) c.self.view_is c.in_ok-foreign.ensures.ok) c.law_found_are_there.ensures (parts c.in_ok-own.own.parts) (parts_are package_eq.it c.args.features.now c.args.self.now c.args.package c.requires (subst (λ (g : Graph). AreWhole g.tables) c.self.view_is c.self.invariant.whole) (owners c.in_ok-foreign.foreign) (subst (λ (g : Graph). AreForeignPlaces package_eq.it c.args.features.now g.names g.tables.packages c.args.package c.in_ok-foreign.foreign.interfaces c.in_ok-foreign.foreign.worlds) c.self.view_is c.in_ok-foreign.ensures.ok) c.law_found_are_there.ensures c.len.result c.len-2.result (parts c.in_ok-own.own.parts) c.len.ensures c.len-2.ensures c.in_ok-own.ensures.parts) c.in_err-plan.field-0.0
    (subst (λ (g : Graph). IsPlanCause c.args.features.now g.tables.interfaces.all (sizes (items_of g.tables)) (owners c.in_ok-foreign.foreign) (parts c.in_ok-own.own.parts) c.in_err-plan.field-0.0) c.self.view_is c.in_err-plan.ensures.cause))

pub put-requires-clause-ready : goal.put-requires-clause-ready
put-requires-clause-ready c = ((owners c.in_ok-foreign.foreign), ready package_eq.it c.args.features.now c.args.self.now c.args.package c.requires (subst (λ (g : Graph). AreWhole g.tables) c.self.view_is c.self.invariant.whole) (owners c.in_ok-foreign.foreign) (subst (λ (g : Graph). AreForeignPlaces package_eq.it c.args.features.now g.names g.tables.packages c.args.package c.in_ok-foreign.foreign.interfaces c.in_ok-foreign.foreign.worlds) c.self.view_is c.in_ok-foreign.ensures.ok) c.law_found_are_there.ensures (parts c.in_ok-own.own.parts) (owners c.in_ok-plan.plan.owners) c.in_ok-plan.plan.types (parts_are package_eq.it c.args.features.now c.args.self.now c.args.package c.requires (subst (λ (g : Graph). AreWhole g.tables) c.self.view_is c.self.invariant.whole) (owners c.in_ok-foreign.foreign) (subst (λ (g : Graph). AreForeignPlaces package_eq.it c.args.features.now g.names g.tables.packages c.args.package c.in_ok-foreign.foreign.interfaces c.in_ok-foreign.foreign.worlds) c.self.view_is c.in_ok-foreign.ensures.ok) c.law_found_are_there.ensures c.len.result c.len-2.result (parts c.in_ok-own.own.parts) c.len.ensures c.len-2.ensures c.in_ok-own.ensures.parts) (subst (λ (g : Graph). IsPlanned c.args.features.now g.tables.interfaces.all (sizes (items_of g.tables)) (owners c.in_ok-foreign.foreign) (parts c.in_ok-own.own.parts) (owners c.in_ok-plan.plan.owners) c.in_ok-plan.plan.types) c.self.view_is c.in_ok-plan.ensures.ok))

pub returns-clause-cause : goal.returns-clause-cause
returns-clause-cause c =
    IfErr-weaker c.put.result (IsPartsCause c.args.features.now (length c.args.self.now.tables.packages) (owners c.in_ok-plan.plan.owners) c.in_ok-plan.plan.types (parts c.in_ok-own.own.parts) (items_of c.args.self.now.tables)) (IsPushCause package_eq.it c.args.features.now c.args.self.now c.args.package)
    (put_refused package_eq.it c.args.features.now c.args.self.now c.args.package c.requires (subst (λ (g : Graph). AreWhole g.tables) c.self.view_is c.self.invariant.whole) (owners c.in_ok-foreign.foreign) (subst (λ (g : Graph). AreForeignPlaces package_eq.it c.args.features.now g.names g.tables.packages c.args.package c.in_ok-foreign.foreign.interfaces c.in_ok-foreign.foreign.worlds) c.self.view_is c.in_ok-foreign.ensures.ok) c.law_found_are_there.ensures (parts c.in_ok-own.own.parts) (owners c.in_ok-plan.plan.owners) c.in_ok-plan.plan.types (parts_are package_eq.it c.args.features.now c.args.self.now c.args.package c.requires (subst (λ (g : Graph). AreWhole g.tables) c.self.view_is c.self.invariant.whole) (owners c.in_ok-foreign.foreign) (subst (λ (g : Graph). AreForeignPlaces package_eq.it c.args.features.now g.names g.tables.packages c.args.package c.in_ok-foreign.foreign.interfaces c.in_ok-foreign.foreign.worlds) c.self.view_is c.in_ok-foreign.ensures.ok) c.law_found_are_there.ensures c.len.result c.len-2.result (parts c.in_ok-own.own.parts) c.len.ensures c.len-2.ensures c.in_ok-own.ensures.parts) (subst (λ (g : Graph). IsPlanned c.args.features.now g.tables.interfaces.all (sizes (items_of g.tables)) (owners c.in_ok-foreign.foreign) (parts c.in_ok-own.own.parts) (owners c.in_ok-plan.plan.owners) c.in_ok-plan.plan.types) c.self.view_is c.in_ok-plan.ensures.ok)) c.put.ensures.cause
