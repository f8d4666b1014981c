-- What is looked up in a package whose names are all found.
use Rattle.std.proofs.Common.{◌≡◌, ℕ, List, Option, Some, None, refl, sym, subst, ap, ◌∙◌}
use Rattle.std.proofs.lemmas.Option.{same_Some, slice_get-map}
use Rattle.std.specs.Prelude.{slice_get, option_map, option_and_then}
use Rattle.name_places.specs.FirstPlaces.{place_of}
use Rattle.name_places.proofs.Places.{place_names}
use Rattle.wit_words.specs.Slice.{Slice}
use Rattle.wit_foreign.specs.Passed.wit_scopes-Members.{MemberKind, used, defined, function, method, static, constructor}
use Rattle.wit_foreign.specs.Passed.wit_scopes-Paths.{own}
use Rattle.wit_foreign.specs.Passed.wit_scopes-Scopes as scope
use Rattle.wit_foreign.specs.Passed.wit_scopes-Scopes.{InterfaceScope, WorldScope, ItemScope}
use Rattle.wit_foreign.specs.Passed.wit_type_names-TypeNames.{names_in_member}
use Rattle.wit_foreign.specs.Passed.wit_rules-declared-fault-PackageRule-TheVariants.{NameNotFound, WrongKind}
use Rattle.wit_foreign.specs.Passed.wit_rules-Breaks.{IsKept}
use Rattle.wit_foreign.specs.Passed.wit_lookups-Lookups.{NameBreaks, found_interface, found_world, PathBreaks, TypeOfItemBreaks, TypesBreak, MemberKindBreaks}
use Rattle.wit_foreign.specs.Passed.wit_lookups-Names.{Name, type_names, other_names, item_name, item_names, item_of}
use Rattle.wit_resolved_scopes.specs.Passed.wit_orders-Needs.{types_of}
use Rattle.wit_foreign.specs.Passed.wit_arena-Meaning.{Has}
use Rattle.wit_foreign.proofs.Passed.wit_arena-Lists.{has_none}
use Rattle.wit_foreign.specs.Passed.wit_package_types-Fill.{member_names}
use Rattle.wit_resolved_scopes.proofs.Declaring.{found_there}
use Rattle.wit_readiness.proofs.Named.{type_names_are}

-- ---- interfaces and worlds

-- it is what is found under the name
pub record IsItem (scopes : List ItemScope) (x : Name) (s : ItemScope) : Type 0 where
  pub place : ℕ
  pub place_is : place_of x (item_names scopes) ≡ Some place
  pub there : slice_get scopes place ≡ Some s
  pub named : item_name s ≡ x

item_there : (scopes : List ItemScope) (x : Name) (s : ItemScope) → item_of scopes x ≡ Some s → IsItem scopes x s
item_there scopes x s h = by (place_of x (item_names scopes)) refl
  where
    at_place : (p : ℕ) → place_of x (item_names scopes) ≡ Some p → slice_get scopes p ≡ Some s
    at_place p e = sym (ap (option_and_then (slice_get scopes)) e) ∙ h

    by : (o : Option ℕ) → place_of x (item_names scopes) ≡ o → IsItem scopes x s
    by None e = absurd (let f : None ≡ Some s = sym (ap (option_and_then (slice_get scopes)) e) ∙ h in cc)
    by (Some p) e = record {
      place = p;
      place_is = e;
      there = at_place p e;
      named = same_Some (item_name s) x (sym (slice_get-map item_name scopes p ∙ ap (option_map item_name) (at_place p e)) ∙ place_names x (item_names scopes) p e);
    }

-- an interface is found under the name
pub record FindsInterface (scopes : List ItemScope) (x : Name) : Type 0 where
  pub interface_is : InterfaceScope
  pub found : item_of scopes x ≡ Some (scope.ItemScope.interface interface_is)
  pub item : IsItem scopes x (scope.ItemScope.interface interface_is)

pub interface_there : (scopes : List ItemScope) (x : Slice) → IsKept (PathBreaks found_interface scopes (own x)) → FindsInterface scopes x.text
interface_there scopes x kept = by (item_of scopes x.text) refl
  where
    by : (o : Option ItemScope) → item_of scopes x.text ≡ o → FindsInterface scopes x.text
    by None e = absurd (kept NameNotFound x.span (subst (λ (o : Option ItemScope). NameBreaks (found_interface o) x NameNotFound x.span) (sym e) (refl, refl)))
    by (Some (scope.world w)) e = absurd (kept WrongKind x.span (subst (λ (o : Option ItemScope). NameBreaks (found_interface o) x WrongKind x.span) (sym e) (refl, refl)))
    by (Some (scope.ItemScope.interface i)) e = record { interface_is = i; found = e; item = item_there scopes x.text (scope.ItemScope.interface i) e }

-- a world is
pub record FindsWorld (scopes : List ItemScope) (x : Name) : Type 0 where
  pub world_is : WorldScope
  pub item : IsItem scopes x (scope.world world_is)

pub world_there : (scopes : List ItemScope) (x : Slice) → IsKept (PathBreaks found_world scopes (own x)) → FindsWorld scopes x.text
world_there scopes x kept = by (item_of scopes x.text) refl
  where
    by : (o : Option ItemScope) → item_of scopes x.text ≡ o → FindsWorld scopes x.text
    by None e = absurd (kept NameNotFound x.span (subst (λ (o : Option ItemScope). NameBreaks (found_world o) x NameNotFound x.span) (sym e) (refl, refl)))
    by (Some (scope.ItemScope.interface i)) e = absurd (kept WrongKind x.span (subst (λ (o : Option ItemScope). NameBreaks (found_world o) x WrongKind x.span) (sym e) (refl, refl)))
    by (Some (scope.world w)) e = record { world_is = w; item = item_there scopes x.text (scope.world w) e }

-- ---- types

pub found_in : (types others : List Name) (names : List Slice) → IsKept (TypesBreak types others names) → (x : Slice) → Has names x → Has types x.text
found_in types others names kept x (k, at) = found_there types others x (λ rule place b. kept rule place (record { place = k; one = x; there = at; breaks = b }))

-- the types that a member names
pub kind_found : (scopes : List ItemScope) (types others : List Name) (k : MemberKind) → IsKept (MemberKindBreaks scopes types others k) → (x : Slice) → Has (names_in_member k) x → Has types x.text
kind_found scopes types others (used t y) kept x h = absurd (has_none x h)
kind_found scopes types others (defined d) kept x h = found_in types others (names_in_member (defined d)) kept x h
kind_found scopes types others (function f) kept x h = found_in types others (names_in_member (function f)) kept x h
kind_found scopes types others (method r f) kept x h = found_in types others (names_in_member (method r f)) kept x h
kind_found scopes types others (static r f) kept x h = found_in types others (names_in_member (static r f)) kept x h
kind_found scopes types others (constructor r ps t) kept x h = found_in types others (names_in_member (constructor r ps t)) kept x h

-- the type of an interface that is used
pub used_there : (o : Option ItemScope) (i : InterfaceScope) (y : Slice) → o ≡ Some (scope.ItemScope.interface i) → IsKept (TypeOfItemBreaks o y) → Has (member_names (types_of i.members)) y.text
used_there o i y e kept =
    subst (λ (ns : List Name). Has ns y.text) (type_names_are i.members)
    (found_there (type_names i.members) (other_names i.members) y (subst (λ (z : Option ItemScope). IsKept (TypeOfItemBreaks z y)) e kept))
