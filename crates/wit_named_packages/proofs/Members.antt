-- Types and functions of a scope have but names of the scope outside.
use Rattle.std.proofs.Common.{◌≡◌, ℕ, List, inl, inr, Some, sym, subst, ap, ◌∙◌}
use Rattle.std.proofs.lemmas.Option.{same_Some}
use Rattle.std.specs.Prelude.{slice_get, option_map, String, string_bytes}
use Rattle.std.specs.declared.alloc.Global.{Global}
use Rattle.wit_order.specs.Order as order
use Rattle.wit_types.specs.declared.kind.TypeDefKind.TheVariants as kind
use Rattle.wit_types.specs.declared.function.Function.{Function}
use Rattle.wit_types.specs.declared.interface.TypeDef.{TypeDef}
use Rattle.wit_types.specs.declared.interface.TypeOwner.{TypeOwner}
use Rattle.wit_scopes.specs.Members.{MemberTree}
use Rattle.wit_arena.specs.Tree.{Name, Place, Tree}
use Rattle.wit_arena.specs.Table.{Entries}
use Rattle.wit_arena.specs.Meaning.{Has}
use Rattle.wit_arena.specs.Standing.{HasTree}
use Rattle.wit_arena.specs.Unfold.{trees, IsWhole}
use Rattle.wit_arena.proofs.Unfolding.{option_map_some}
use Rattle.wit_well_formed.specs.Passed.wit_resolved_scopes-Each.{Each}
use Rattle.wit_well_formed.specs.Passed.wit_resolved_scopes-InArena.{Context, IsTypeIn, IsFunctionIn}
use Rattle.wit_well_formed.specs.Passed.wit_resolved_scopes-Meaning.{function_refs, written_parts}
use Rattle.wit_well_formed.proofs.Passed.wit_resolved_scopes-Eaches.{each_right}
use Rattle.wit_reach.specs.Ids.{resource_ids, signature_ids, function_ids}
use Rattle.wit_reach.proofs.Lists.{has_parts}
use Rattle.wit_well_formed.proofs.Holding.{of_resource, refs_have}
use Rattle.wit_named_packages.proofs.Outside.{given, owner_at, IsOfScope, scope_outside, outside_parts, name_of_scope, HasOutside, parts_outside}
use Rattle.wit_named_packages.proofs.Scope.{scope_known}

module _ (c : Context) (o : Place) (whose : TypeOwner) (a : List TypeDef) (sorted : List MemberTree) (table : Entries) (are : Each (IsTypeIn c o whose a) sorted table) where
  abbrev pub OutsideAt : ℕ → Type 0
  OutsideAt i = HasOutside (trees c.owners (given c.me) a) (owner_at c.me o) i

  abbrev pub IsScopeTree : ℕ → Tree → Type 0
  IsScopeTree i t = HasTree c.owners (given c.me) a i t × IsOfScope c.me (owner_at c.me o) t

  member_in : (x : Name) (i : ℕ) → Has table (x, i) → (m : MemberTree) × IsTypeIn c o whose a m (x, i)
  member_in x i (k, at) = (let r = each_right (IsTypeIn c o whose a) sorted table are k (x, i) at in (r.0, r.2))

  pub type_tree : (x : Name) (i : ℕ) → Has table (x, i) → (t : Tree) × IsScopeTree i t
  type_tree x i h =
      let m = member_in x i h in
      let s = m.1.means (given c.me) in
      (s.0, (s.1, name_of_scope c.me c.scopes o m.0.name.text s.0 s.2))

  pub type_owner : (x : Name) (i : ℕ) → Has table (x, i) → (d : TypeDef) → slice_get a i ≡ Some d → d.owner ≡ whose
  type_owner x i h d at =
      let m = member_in x i h in
      let same : m.1.def ≡ d = same_Some m.1.def d (sym m.1.there ∙ at) in
      ap (λ (y : TypeDef). y.owner) (sym same) ∙ m.1.is.owner

  -- more than their names is known
  pub type_known : IsWhole c.owners (given c.me) a → (x : Name) (i : ℕ) → Has table (x, i) → (d : TypeDef) → slice_get a i ≡ Some d → d.kind ≡ kind.Unknown → ⊥
  type_known whole x i h d at unknown =
      let m = member_in x i h in
      let same : m.1.def ≡ d = same_Some m.1.def d (sym m.1.there ∙ at) in
      let named = option_map_some (λ (s : String Global). string_bytes s) d.name m.0.name.text (subst (λ (y : TypeDef). option_map string_bytes y.name ≡ Some m.0.name.text) same m.1.is.name) in
      let t = type_tree x i h in
      scope_known c.me c.owners a whole o i d t.0 named.0 at t.1.0 named.1 t.1.1 unknown

  pub type_outside : (x : Name) (i : ℕ) → Has table (x, i) → OutsideAt i
  type_outside x i h = (let t = type_tree x i h in (t.0, t.1.0, scope_outside c.me (owner_at c.me o) t.0 t.1.1))

  pub function_outside : (m : MemberTree) (f : Function) → IsFunctionIn c o a table m f → (i : ℕ) → order.Has (function_ids f) i → OutsideAt i
  function_outside m f stands i h = elim (has_parts (resource_ids f.kind) (signature_ids f) i h) as (λ _. OutsideAt i) [
    | inl r ↦ (let x = of_resource table m.kind f.kind stands.is.kind i r in type_outside x.0 i x.1)
    | inr s ↦
        let p = stands.means (given c.me) in
        parts_outside (trees c.owners (given c.me) a) (owner_at c.me o) (function_refs f) p.parts p.unfolds (outside_parts c.me c.scopes o (written_parts m) p.parts p.mean) i (refs_have f i s)
  ]
