-- Interfaces in their order are ready.
use Rattle.std.proofs.Common.{◌≡◌, ℕ, List, [], inl, inr, Some, map, take, refl, sym, subst, ap, ◌∙◌}
use Rattle.std.proofs.lemmas.Option.{slice_get-map}
use Rattle.std.specs.Prelude.{slice_get, option_map}
use Rattle.wit_foreign.specs.Passed.wit_syntax-Ast.{PackageNameTree, FileTree}
use Rattle.wit_foreign.specs.Passed.wit_scopes-Paths.{file_uses}
use Rattle.wit_foreign.specs.Passed.wit_scopes-Scopes as scope
use Rattle.wit_foreign.specs.Passed.wit_scopes-Scopes.{InterfaceScope, ItemScope}
use Rattle.wit_foreign.specs.Passed.wit_rules-Labels.{scope_name}
use Rattle.wit_foreign.specs.Passed.wit_rules-Breaks.{IsKept}
use Rattle.wit_foreign.specs.Passed.wit_rules-Facts as fact
use Rattle.wit_foreign.specs.Passed.wit_rules-Facts.{ScopesBreak, IsDeclared}
use Rattle.wit_foreign.proofs.Passed.wit_rules-Apart.{apart}
use Rattle.wit_foreign.specs.Passed.wit_lookups-Lookups as look
use Rattle.wit_foreign.specs.Passed.wit_lookups-Lookups.{ItemBreaks, LookupsBreak}
use Rattle.wit_foreign.specs.Passed.wit_lookups-Names.{known_at, item_file, known_names, item_name}
use Rattle.wit_foreign.specs.Passed.wit_arena-Meaning.{Has}
use Rattle.wit_foreign.proofs.Passed.wit_arena-Lists.{has_none, has_here}
use Rattle.wit_foreign.specs.Needs.{item_needs}
use Rattle.wit_resolved_scopes.specs.Each.{AreApartBy}
use Rattle.wit_resolved_scopes.specs.Texts.{interface_of, interfaces_of, AreItemsSorted, interface_text}
use Rattle.wit_resolved_scopes.specs.Fit.{Foreign, IsInterfaceReady, AreInterfacesReady}
use Rattle.wit_readiness.specs.Readiness.{FindsForeign}
use Rattle.wit_readiness.proofs.Flat.{AtMostOne, has_one, flat_has, flat_apart, given_at}
use Rattle.wit_readiness.proofs.Sorted.{item_among, needed_in_front, sorted_apart}
use Rattle.wit_readiness.proofs.Parts.{declared_kept, members_keep, interface_gates}
use Rattle.wit_readiness.proofs.Resources.{ScopeHasResources, package_resources}
use Rattle.wit_readiness.proofs.Members.{functions_are_apart, members_fit}

-- names of interfaces and worlds are apart
pub scopes_apart : (scopes : List ItemScope) → IsKept (ScopesBreak scopes) → AreApartBy item_name scopes
scopes_apart scopes kept i j s t at_i at_j same =
    apart (map scope_name scopes) (λ rule at b. kept rule at (fact.ScopesBreak.by_names b)) i j (scope_name s) (scope_name t) (slice_get-map scope_name scopes i ∙ ap (option_map scope_name) at_i)
    (slice_get-map scope_name scopes j ∙ ap (option_map scope_name) at_j) same

pub item_keeps : (files : List FileTree) (me : PackageNameTree) (scopes : List ItemScope) → IsKept (LookupsBreak me (file_uses files) scopes) → (s : ItemScope) → Has scopes s → IsKept (ItemBreaks scopes (known_at (map known_names (file_uses files)) (item_file s)) s)
item_keeps files me scopes kept s (k, at) rule place b = kept rule place (look.by_item (record { place = k; one = s; there = at; breaks = b }))

pub scope_resources : (files : List FileTree) (me : PackageNameTree) (scopes : List ItemScope) → IsDeclared files me scopes → (s : ItemScope) → Has scopes s → ScopeHasResources s
scope_resources files me scopes d s has = package_resources me files s (subst (λ (ss : List ItemScope). Has ss s) d.scopes_are has)

pub interface_one : (s : ItemScope) → AtMostOne (interface_of s)
interface_one (scope.ItemScope.interface i) = inr (i, refl)
interface_one (scope.world w) = inl refl

pub interface_given : (s : ItemScope) (i : InterfaceScope) → Has (interface_of s) i → s ≡ scope.ItemScope.interface i
interface_given (scope.ItemScope.interface j) i h = ap (λ (z : InterfaceScope). scope.ItemScope.interface z) (sym (has_one j i h))
interface_given (scope.world w) i h = absurd (has_none i h)

module _ (files : List FileTree) (me : PackageNameTree) (scopes sorted : List ItemScope) (others : Foreign) (declared : IsDeclared files me scopes) (kept : IsKept (LookupsBreak me (file_uses files) scopes)) (are : AreItemsSorted scopes sorted) (finds : FindsForeign scopes others) where
  interfaces_apart : AreApartBy (λ (i : InterfaceScope). i.name.text) (interfaces_of sorted)
  interfaces_apart =
      flat_apart interface_of interface_one (λ (i : InterfaceScope). i.name.text) sorted
      (λ i j s t a b at_i at_j has_a has_b same. sorted_apart scopes sorted are (scopes_apart scopes (declared_kept files me scopes declared)) i j s t at_i at_j
      (ap item_name (interface_given s a has_a) ∙ same ∙ sym (ap item_name (interface_given t b has_b))))

  interface_ready : (n : ℕ) (i : InterfaceScope) → slice_get (interfaces_of sorted) n ≡ Some i → IsInterfaceReady (take n (interfaces_of sorted)) others (interface_text i)
  interface_ready n i at =
      let g = given_at interface_of interface_one sorted n i at in
      let here : slice_get sorted g.place ≡ Some (scope.ItemScope.interface i) = g.there ∙ ap (λ (s : ItemScope). Some s) (interface_given g.one_is i g.gives) in
      let has : Has scopes (scope.ItemScope.interface i) = item_among scopes sorted are (scope.ItemScope.interface i) (g.place, here) in
      let rules : IsKept (fact.MembersBreak i.members) = members_keep scopes (declared_kept files me scopes declared) i has in
      record {
        members = members_fit scopes others finds (take n (interfaces_of sorted)) (known_at (map known_names (file_uses files)) i.file) i.members rules (scope_resources files me scopes declared (scope.ItemScope.interface i) has)
            (item_keeps files me scopes kept (scope.ItemScope.interface i) has) (λ m needed. flat_has item_needs scopes (scope.ItemScope.interface i) m has needed)
            (λ x j named item.
            (let r = needed_in_front scopes sorted are g.place (scope.ItemScope.interface i) x item.place (scope.ItemScope.interface j) here named item.place_is item.there in
            g.before r.0 (scope.ItemScope.interface j) j r.1 r.2 (has_here j [])));
        functions_apart = functions_are_apart i.members rules;
        gates = interface_gates scopes (declared_kept files me scopes declared) i has;
      }

  pub interfaces_ready : AreInterfacesReady others (interfaces_of sorted)
  interfaces_ready = record { apart = interfaces_apart; each = interface_ready }
