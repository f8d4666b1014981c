-- Worlds that are ready behind those in front of them may be made.
use Rattle.std.proofs.Common.{◌≡◌, ℕ, ◌+◌, ◌<◌, ◌^◌, List, [], Some, length, map, take, sym, subst}
use Rattle.std.specs.Prelude.{slice_get}
use Rattle.wit_scopes.specs.Paths.{TargetTree, own, foreign}
use Rattle.wit_scopes.specs.Scopes as scope
use Rattle.wit_scopes.specs.Scopes.{ListedTree, IncludedTree, WorldMemberTree, WorldScope}
use Rattle.wit_interfaces.specs.Passed.wit_arena-Tree.{Name, in_interface, in_world}
use Rattle.wit_interfaces.specs.Passed.wit_arena-Meaning.{Has, package_text}
use Rattle.wit_interfaces.proofs.Passed.wit_arena-Lists.{has_here}
use Rattle.wit_interfaces.specs.Passed.wit_package_types-Known.{KnownTypes}
use Rattle.wit_readiness.specs.Passed.wit_foreign-Needs.{NeedTree}
use Rattle.wit_readiness.specs.Passed.wit_foreign-Items.{Items, AreItemsOf}
use Rattle.wit_interfaces.specs.Passed.wit_resolved_scopes-Texts.{own_members, included_in}
use Rattle.wit_interfaces.specs.Passed.wit_resolved_scopes-Fit.{IsInterfaceAmong, IsWorldAmong, IsWorldReady}
use Rattle.wit_interfaces.proofs.Passed.wit_resolved_scopes-Fitting.{fit_ready}
use Rattle.wit_readiness.proofs.Flat.{flat_has}
use Rattle.wit_worlds.specs.Paths.{IsInterfaceThere, IsWorldThere}
use Rattle.wit_worlds.specs.Listing.{IsThere}
use Rattle.wit_built_worlds.specs.Adding.{paths_of, AreNumbered, IsWorldReadyIn, AreReadyBehind}
use Rattle.wit_readiness.proofs.Passed.wit_foreign-Numbers.{interface_below, interface_alone}
use Rattle.wit_built_worlds.proofs.Numbers.{items_are_sorts}

module _ (k : KnownTypes) (items : Items) (ws : List WorldScope) (behind : AreReadyBehind k items ws) (n : ℕ) (w : WorldScope) (there : slice_get ws n ≡ Some w) (names : List Name) (names_are : names ≡ map (λ v. v.name.text) (take n ws)) where
  ready : IsWorldReady behind.interfaces (take n ws) behind.others w
  ready = behind.ready.each n w there

  interface_leads : (t : TargetTree) → IsInterfaceAmong behind.interfaces behind.others t → IsInterfaceThere (paths_of k items names) t
  interface_leads (own x) among = subst (λ (ns : List Name). Has ns x.text) (sym behind.knows.names) among
  interface_leads (foreign p x) among = behind.owners.interfaces (record { package_text = package_text p; place = in_interface x.text }) among

  world_leads : (t : TargetTree) → IsWorldAmong (take n ws) behind.others t → IsWorldThere (paths_of k items names) t
  world_leads (own x) among = subst (λ (ns : List Name). Has ns x.text) (sym names_are) among
  world_leads (foreign p x) among = behind.owners.worlds (record { package_text = package_text p; place = in_world x.text }) among

  member_leads : (m : WorldMemberTree) → Has w.members m → IsThere (paths_of k items names) m
  member_leads m has = record {
    path = λ l t is kind. interface_leads t (ready.paths l t (subst (Has w.members) is has) kind);
    listed_gates = λ l is. ready.listed_gates l (subst (Has w.members) is has);
    world = λ i is. (
        let r = ready.includes i (flat_has included_in w.members (scope.included i) i (subst (Has w.members) is has) (has_here i [])) in (world_leads i.world r.0, r.1)
        );
  }

  pub next_ready : IsWorldReadyIn k (paths_of k items names) w
  next_ready = record {
    own = fit_ready k behind.interfaces behind.others behind.knows behind.types (own_members w.members) ready.own;
    labelled = λ t has.
        (let r = ready.labelled t has in record { members = fit_ready k behind.interfaces behind.others behind.knows behind.types t.members r.members; functions_apart = r.functions_apart; gates = r.gates });
    there = member_leads;
    gates = ready.gates;
    keys_apart = ready.keys_apart;
    types_apart = ready.types_apart;
  }

pub numbered : (k : KnownTypes) (needs : List NeedTree) (items : Items) → AreItemsOf needs items → (names : List Name) → (paths_of k items names).first_interface + length k.names < 2 ^ 64 → (paths_of k items names).first_world + length names < 2 ^ 64
    → AreNumbered (paths_of k items names)
numbered k needs items are names interfaces_fit worlds_fit = record {
  sorts = items_are_sorts needs items are;
  one_owner = record { below = λ w j has. interface_below needs items are w j has; alone = λ v w j has also. interface_alone needs items are v w j has also };
  interfaces_fit = interfaces_fit;
  worlds_fit = worlds_fit;
}
