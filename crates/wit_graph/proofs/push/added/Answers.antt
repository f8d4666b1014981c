use Rattle.std.proofs.Common.{◌≡◌, ◌++◌, ◌⊎◌, ℕ, List, [], ◌∷◌, inl, inr, Ok, Err, length, sym, subst, ap, ◌∙◌, arith}
use Rattle.wit_order.specs.Places.{Rows, Needs}
use Rattle.wit_reach.specs.Paths.{AreBackward}
use Rattle.wit_reach.proofs.Holding.{held_in_order}
use Rattle.wit_closures.specs.Closures.{AreReached}
use Rattle.std.proofs.lemmas.List.{append-nil}
use Rattle.std.proofs.lemmas.Result.{on_ok_weaker, on_err_weaker, IfErr-weaker}
use Rattle.wit_moves.specs.View.{owners}
use Rattle.wit_types.specs.declared.«package».Package.{Package}
use Rattle.wit_names.specs.Names.{ArePackagesKnown}
use Rattle.wit_graph_parts.specs.Passed.wit_placed-Found.{ArePackagesThere}
use Rattle.wit_graph.specs.Graph.{items, items_of, AreItemsWhole}
use Rattle.wit_graph_parts.specs.Own.{parts}
use Rattle.wit_graph.specs.Push.{ArePartsAdded, IsPartsCause}
use Rattle.wit_graph_parts.specs.declared.fault.PushFault.TheVariants.{OutOfMemory}
use Rattle.wit_graph.proofs.Finishing.{if_ok_at, if_err_at, on_ok_at, packages_there, owners_known}
use Rattle.wit_graph.proofs.Depending.{backward_more}
use Rattle.wit_graph.proofs.Keeping.{uses_backward}
use Rattle.wit_graph.proofs.push.added.Goals as goal

pub reach-names-requires-clause-backward : goal.reach-names-requires-clause-backward
reach-names-requires-clause-backward c = on_ok_weaker c.add_parts-names.result
    (λ w. subst (λ (rs : Rows). AreBackward (Needs rs)) (sym c.uses.ensures) (uses_backward c.add_parts-names.new.types c.add_parts-names.new.interfaces.all c.add_parts-names.new.interfaces.uses w.rows (held_in_order 0 c.add_parts-names.new.types c.add_parts-names.new.interfaces.all w.holds)))
    c.add_parts-names.ensures.whole

pub reach-names-requires-clause-reached : goal.reach-names-requires-clause-reached
reach-names-requires-clause-reached c =
    let old : Rows = c.args.tables.interfaces.uses in
    let whole = c.requires.whole in
    let grown = c.add_parts-names.ensures.interfaces_grown in
    let many = whole.closures_are in
    let stays : AreReached (old ++ grown.uses) c.args.tables.closures =
    c.law_reached_stay.ensures old grown.uses c.args.tables.closures (uses_backward c.args.tables.types c.args.tables.interfaces.all old whole.whole.rows (held_in_order 0 c.args.tables.types c.args.tables.interfaces.all whole.whole.holds)) (omega (arith, many)) whole.reached
    in
    on_ok_weaker c.add_parts-names.result (λ w. subst (λ (rs : Rows). AreReached rs c.args.tables.closures) (sym (c.uses.ensures ∙ grown.uses_are)) stays) c.add_parts-names.ensures.whole

pub returns-clause-ok : goal.returns-clause-ok
returns-clause-ok c = on_ok_weaker c.put_named-done.result (λ h. record {
  interface_names = h.0.interfaces.entries;
  world_names = h.0.worlds.entries;
  parts = subst (λ (w : ℕ). ArePartsAdded c.args.by.now.features.now w (owners c.args.by.now.plan.now.owners) c.args.by.now.plan.now.types (parts c.args.own.parts) (items_of c.args.tables) (items c.add_parts-names.new.types c.add_parts-names.new.natures c.add_parts-names.new.interfaces c.add_parts-names.new.worlds) h.0.interfaces.entries h.0.worlds.entries) c.requires.owner
      (if_ok_at c.add_parts-names.result h.0 (λ names. ArePartsAdded c.args.by.now.features.now c.args.by.now.owner (owners c.args.by.now.plan.now.owners) c.args.by.now.plan.now.types (parts c.args.own.parts) (items_of c.args.tables) (items c.add_parts-names.new.types c.add_parts-names.new.natures c.add_parts-names.new.interfaces c.add_parts-names.new.worlds) names.interfaces.entries names.worlds.entries) (if_ok_at c.reach-names.result h.0 (λ n. c.add_parts-names.result ≡ Ok n) h.1 c.reach-names.ensures.ok) c.add_parts-names.ensures.ok);
  q = h.2.0;
  is_package = h.2.1;
  packages_are = h.2.2;
}) c.put_named-done.ensures.ok

pub returns-clause-whole : goal.returns-clause-whole
returns-clause-whole c = on_ok_weaker c.put_named-done.result (λ h. let known : ArePackagesKnown c.put_named-done.new.packages c.add_parts-names.new.interfaces.all =
    subst (λ (ps : List Package). ArePackagesKnown ps c.add_parts-names.new.interfaces.all) (sym h.2.2)
    (owners_known c.args.by.now.features.now c.args.by.now.owner (owners c.args.by.now.plan.now.owners) c.args.by.now.plan.now.types (parts c.args.own.parts) (items_of c.args.tables) (items c.add_parts-names.new.types c.add_parts-names.new.natures c.add_parts-names.new.interfaces c.add_parts-names.new.worlds) h.0.interfaces.entries h.0.worlds.entries
    (if_ok_at c.add_parts-names.result h.0 (λ names. ArePartsAdded c.args.by.now.features.now c.args.by.now.owner (owners c.args.by.now.plan.now.owners) c.args.by.now.plan.now.types (parts c.args.own.parts) (items_of c.args.tables) (items c.add_parts-names.new.types c.add_parts-names.new.natures c.add_parts-names.new.interfaces c.add_parts-names.new.worlds) names.interfaces.entries names.worlds.entries) (if_ok_at c.reach-names.result h.0 (λ n. c.add_parts-names.result ≡ Ok n) h.1 c.reach-names.ensures.ok) c.add_parts-names.ensures.ok)
    c.args.tables.packages h.2.0 c.requires.owner c.requires.whole.owners_are)
    in record {
      whole = on_ok_at c.add_parts-names.result h.0 (AreItemsWhole (items c.add_parts-names.new.types c.add_parts-names.new.natures c.add_parts-names.new.interfaces c.add_parts-names.new.worlds)) (if_ok_at c.reach-names.result h.0 (λ n. c.add_parts-names.result ≡ Ok n) h.1 c.reach-names.ensures.ok) c.add_parts-names.ensures.whole;
      closures_are = on_ok_at c.reach-names.result h.0 (length c.reach-names.new.closures ≡ length c.add_parts-names.new.interfaces.uses) h.1 (on_ok_weaker c.reach-names.result (λ e. e ∙ ap (λ (rs : Rows). length rs) c.uses.ensures) c.reach-names.ensures.all);
      reached = on_ok_at c.reach-names.result h.0 (AreReached c.add_parts-names.new.interfaces.uses c.reach-names.new.closures) h.1 (on_ok_weaker c.reach-names.result (λ e. subst (λ (rs : Rows). AreReached rs c.reach-names.new.closures) c.uses.ensures e) c.reach-names.ensures.reached);
      owners_are = known;
      packages_are = subst (ArePackagesThere (length c.add_parts-names.new.interfaces.all) (length c.add_parts-names.new.worlds.listed)) (sym h.2.2)
          (packages_there c.args.by.now.features.now c.args.by.now.owner (owners c.args.by.now.plan.now.owners) c.args.by.now.plan.now.types (parts c.args.own.parts) (items_of c.args.tables) (items c.add_parts-names.new.types c.add_parts-names.new.natures c.add_parts-names.new.interfaces c.add_parts-names.new.worlds) h.0.interfaces.entries h.0.worlds.entries
          (if_ok_at c.add_parts-names.result h.0 (λ names. ArePartsAdded c.args.by.now.features.now c.args.by.now.owner (owners c.args.by.now.plan.now.owners) c.args.by.now.plan.now.types (parts c.args.own.parts) (items_of c.args.tables) (items c.add_parts-names.new.types c.add_parts-names.new.natures c.add_parts-names.new.interfaces c.add_parts-names.new.worlds) names.interfaces.entries names.worlds.entries) (if_ok_at c.reach-names.result h.0 (λ n. c.add_parts-names.result ≡ Ok n) h.1 c.reach-names.ensures.ok) c.add_parts-names.ensures.ok)
          c.args.tables.packages h.2.0 c.requires.whole.packages_are h.2.1.interfaces_are h.2.1.worlds_are);
      backward = backward_more c.args.tables _ c.add_parts-names.ensures.types_grown.0 c.add_parts-names.ensures.interfaces_grown.all c.add_parts-names.ensures.elaborated_grown.0 h.2.0 c.add_parts-names.ensures.types_grown.1 c.add_parts-names.ensures.interfaces_grown.all_are c.add_parts-names.ensures.elaborated_grown.1 h.2.2 c.requires.whole c.law_elaborated_worlds_are_there.ensures known;
    }) c.put_named-done.ensures.ok

pub returns-clause-cause : goal.returns-clause-cause
returns-clause-cause c = IfErr-weaker c.put_named-done.result (λ fault. (c.reach-names.result ≡ Err fault) ⊎ (fault ≡ OutOfMemory)) (IsPartsCause c.args.by.now.features.now c.args.by.now.owner (owners c.args.by.now.plan.now.owners) c.args.by.now.plan.now.types (parts c.args.own.parts) (items_of c.args.tables))
    (λ fault s. elim s as (λ _. IsPartsCause c.args.by.now.features.now c.args.by.now.owner (owners c.args.by.now.plan.now.owners) c.args.by.now.plan.now.types (parts c.args.own.parts) (items_of c.args.tables) fault) [
      | inl e ↦ elim (if_err_at c.reach-names.result fault (λ f. (c.add_parts-names.result ≡ Err f) ⊎ (f ≡ OutOfMemory)) e c.reach-names.ensures.cause) as (λ _. IsPartsCause c.args.by.now.features.now c.args.by.now.owner (owners c.args.by.now.plan.now.owners) c.args.by.now.plan.now.types (parts c.args.own.parts) (items_of c.args.tables) fault) [
        | inl parts_fault ↦ if_err_at c.add_parts-names.result fault (IsPartsCause c.args.by.now.features.now c.args.by.now.owner (owners c.args.by.now.plan.now.owners) c.args.by.now.plan.now.types (parts c.args.own.parts) (items_of c.args.tables)) parts_fault c.add_parts-names.ensures.cause
        | inr memory ↦ subst (IsPartsCause c.args.by.now.features.now c.args.by.now.owner (owners c.args.by.now.plan.now.owners) c.args.by.now.plan.now.types (parts c.args.own.parts) (items_of c.args.tables)) (sym memory) tt
      ]
      | inr e ↦ subst (IsPartsCause c.args.by.now.features.now c.args.by.now.owner (owners c.args.by.now.plan.now.owners) c.args.by.now.plan.now.types (parts c.args.own.parts) (items_of c.args.tables)) (sym e) tt
    ]) c.put_named-done.ensures.cause

pub returns-clause-err : goal.returns-clause-err
returns-clause-err c = on_err_weaker c.put_named-done.result (λ same. record {
  more = record {
    types = c.add_parts-names.ensures.types_grown.0;
    types_are = c.add_parts-names.ensures.types_grown.1;
    known = c.add_parts-names.ensures.natures_grown.0;
    natures_are = c.add_parts-names.ensures.natures_grown.1;
    interfaces = c.add_parts-names.ensures.interfaces_grown.all;
    interfaces_are = c.add_parts-names.ensures.interfaces_grown.all_are;
    uses = c.add_parts-names.ensures.interfaces_grown.uses;
    uses_are = c.add_parts-names.ensures.interfaces_grown.uses_are;
    closures = c.reach-names.ensures.grown.0;
    closures_are = c.reach-names.ensures.grown.1;
    listed = c.add_parts-names.ensures.listed_grown.0;
    listed_are = c.add_parts-names.ensures.listed_grown.1;
    elaborated = c.add_parts-names.ensures.elaborated_grown.0;
    elaborated_are = c.add_parts-names.ensures.elaborated_grown.1;
    packages = [];
    packages_are = same ∙ sym (append-nil c.args.tables.packages);
  };
  same_packages = same;
}) c.put_named-done.ensures.err

pub returns-clause-more : goal.returns-clause-more
returns-clause-more c = on_ok_weaker c.put_named-done.result (λ h. record {
  types = c.add_parts-names.ensures.types_grown.0;
  types_are = c.add_parts-names.ensures.types_grown.1;
  known = c.add_parts-names.ensures.natures_grown.0;
  natures_are = c.add_parts-names.ensures.natures_grown.1;
  interfaces = c.add_parts-names.ensures.interfaces_grown.all;
  interfaces_are = c.add_parts-names.ensures.interfaces_grown.all_are;
  uses = c.add_parts-names.ensures.interfaces_grown.uses;
  uses_are = c.add_parts-names.ensures.interfaces_grown.uses_are;
  closures = c.reach-names.ensures.grown.0;
  closures_are = c.reach-names.ensures.grown.1;
  listed = c.add_parts-names.ensures.listed_grown.0;
  listed_are = c.add_parts-names.ensures.listed_grown.1;
  elaborated = c.add_parts-names.ensures.elaborated_grown.0;
  elaborated_are = c.add_parts-names.ensures.elaborated_grown.1;
  packages = h.2.0 ∷ [];
  packages_are = h.2.2;
}) c.put_named-done.ensures.ok
