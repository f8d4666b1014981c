-- Types of scopes are listed in the interfaces and worlds that are made of these.
use Rattle.std.proofs.Common.{◌≡◌, ◌⊎◌, ℕ, List, [], ◌∷◌, ◌++◌, length, Some, inl, inr, sym, subst, ap, ◌∙◌}
use Rattle.std.specs.Prelude.{slice_get, String, string_bytes}
use Rattle.std.specs.declared.alloc.Global.{Global}
use Rattle.wit_types.specs.declared.function.Function.{Function}
use Rattle.wit_types.specs.declared.interface.Interface.{Interface}
use Rattle.wit_types.specs.declared.interface.TypeDef.{TypeDef}
use Rattle.wit_types.specs.declared.interface.TypeOwner.{TypeOwner}
use Rattle.wit_types.specs.declared.interface.TypeOwner.TheVariants as belongs
use Rattle.wit_types.specs.declared.world.World.{World}
use Rattle.wit_scopes.specs.Members.{MemberTree}
use Rattle.wit_arena.specs.Tree.{Name, Place}
use Rattle.wit_arena.specs.Table.{Entries}
use Rattle.wit_arena.specs.Meaning.{Has}
use Rattle.wit_arena.proofs.Lists.{get_kept, get_last, has_here, has_left, has_right, map_has}
use Rattle.wit_resolved_scopes.specs.Passed.wit_package_types-Known.{KnownTypes}
use Rattle.wit_resolved_scopes.specs.InArena.{Context, GrowsFor}
use Rattle.wit_resolved_scopes.specs.Listed.{IsListedIn}
use Rattle.wit_resolved_scopes.specs.Texts.{InterfaceText}
use Rattle.wit_resolved_scopes.proofs.Listing.{new_through, form_grown, resolved_listed}
use Rattle.wit_interfaces.specs.Interfaces.{IsInterfaceOf}
use Rattle.wit_interfaces.specs.Adding.{MayBring, MakesInterface}
use Rattle.wit_interfaces.specs.Listed.{ScopeTexts, one_interface, texts_behind, IsScopeOf, of_interface, of_world, HasType, IsListedAt, IsListed, NewTypesAreListed}

-- ---- more scopes

scope_left : (ts us : ScopeTexts) (o : Place) (ms : List MemberTree) → IsScopeOf ts o ms → IsScopeOf (texts_behind ts us) o ms
scope_left ts us o ms (of_interface t has) = of_interface t (has_left ts.interfaces us.interfaces t has)
scope_left ts us o ms (of_world w has) = of_world w (has_left ts.worlds us.worlds w has)

scope_right : (ts us : ScopeTexts) (o : Place) (ms : List MemberTree) → IsScopeOf us o ms → IsScopeOf (texts_behind ts us) o ms
scope_right ts us o ms (of_interface t has) = of_interface t (has_right ts.interfaces us.interfaces t has)
scope_right ts us o ms (of_world w has) = of_world w (has_right ts.worlds us.worlds w has)

module _ (c : Context) (ts us : ScopeTexts) (among : (o : Place) (ms : List MemberTree) → IsScopeOf ts o ms → IsScopeOf us o ms) (a : List TypeDef) (interfaces : List Interface) (worlds : List World) where
  listed_among : (i : ℕ) (t : TypeDef) (o : TypeOwner) → IsListedAt c ts a interfaces worlds i t o → IsListedAt c us a interfaces worlds i t o
  listed_among i t belongs.None (o, ms, scope, form) = (o, ms, among o ms scope, form)
  listed_among i t (belongs.Interface j) is = is
  listed_among i t (belongs.World w) is = is

-- with more interfaces and worlds, in an arena that has grown, what was listed still is, and so are the types of one step and then another
module _ (c : Context) (interfaces interfaces2 more : List Interface) (behind : interfaces2 ≡ interfaces ++ more) (worlds worlds2 others : List World) (worlds_behind : worlds2 ≡ worlds ++ others) where
  still_at : (ts : ScopeTexts) (a b : List TypeDef) → GrowsFor c a b → (i : ℕ) (t : TypeDef) (o : TypeOwner) → IsListedAt c ts a interfaces worlds i t o → IsListedAt c ts b interfaces2 worlds2 i t o
  still_at ts a b grows i t belongs.None (o, ms, scope, form) = (o, ms, scope, form_grown c o ms a b i t grows form)
  still_at ts a b grows i t (belongs.Interface j) (d, at, has) = (d, ap (λ (ds : List Interface). slice_get ds j) behind ∙ get_kept interfaces more j d at, has)
  still_at ts a b grows i t (belongs.World w) (d, at, has) = (d, ap (λ (ds : List World). slice_get ds w) worlds_behind ∙ get_kept worlds others w d at, has)

  pub listed_through : (ts us : ScopeTexts) (a b d : List TypeDef) → GrowsFor c b d → NewTypesAreListed c ts interfaces worlds a b → NewTypesAreListed c us interfaces2 worlds2 b d → NewTypesAreListed c (texts_behind ts us) interfaces2 worlds2 a d
  listed_through ts us a b d grows =
      new_through (IsListed c ts b interfaces worlds) (IsListed c us d interfaces2 worlds2) (IsListed c (texts_behind ts us) d interfaces2 worlds2) a b d
      (λ i t is. listed_among c ts (texts_behind ts us) (scope_left ts us) d interfaces2 worlds2 i t t.owner (still_at ts b d grows i t t.owner is)) (λ i t. listed_among c us (texts_behind ts us) (scope_right ts us) d interfaces2 worlds2 i t t.owner)

-- a scope's are listed in what is made of it
pub listed_at : (c : Context) (ts : ScopeTexts) (o : Place) (ms : List MemberTree) → IsScopeOf ts o ms → (a : List TypeDef) (interfaces : List Interface) (worlds : List World) (whose : TypeOwner) (table : Entries)
    → ((x : Name) (i : ℕ) (t : TypeDef) → Has table (x, i) → IsListedAt c ts a interfaces worlds i t whose) → (i : ℕ) (t : TypeDef) → IsListedIn c o ms whose a table i t → IsListed c ts a interfaces worlds i t
listed_at c ts o ms scope a interfaces worlds whose table has i t is = elim is as (λ _. IsListed c ts a interfaces worlds i t) [
  | inl form ↦ subst (IsListedAt c ts a interfaces worlds i t) (sym form.unnamed.owner) (o, ms, scope, form)
  | inr (x, there_, its) ↦ subst (IsListedAt c ts a interfaces worlds i t) (sym its) (has x i t there_)
]

-- ---- an interface

-- it has what its table has
has_type : (t : InterfaceText) (table : Entries) (fs : List Function) (d : Interface) → IsInterfaceOf t table fs d → (x : Name) (i : ℕ) → Has table (x, i) → HasType d i
has_type t table fs d is x i has =
    let m = map_has (λ (e : String Global × ℕ). (string_bytes e.0, e.1)) d.types.entries (x, i) (subst (λ (es : Entries). Has es (x, i)) (sym is.types) has) in
    (m.0.0, subst (λ (n : ℕ). Has d.types.entries (m.0.0, n)) (sym (ap (λ (e : Name × ℕ). e.1) m.2)) m.1)

-- the types that are brought in with an interface, which goes behind others, are listed in it
module _ (c : Context) (k : KnownTypes) (a b : List TypeDef) (t : InterfaceText) (old new : List Interface) (table : Entries) (d : Interface) (may : MayBring c t.place (belongs.Interface (length old)) k a t.members)
    (makes : MakesInterface k a t (length old) b table d) (behind : new ≡ old ++ d ∷ [])
  where
    here : (i : ℕ) (e : TypeDef) → IsListedIn c t.place t.members (belongs.Interface (length old)) b table i e → IsListed c (one_interface t) b new [] i e
    here =
        listed_at c (one_interface t) t.place t.members (of_interface t (has_here t [])) b new [] (belongs.Interface (length old)) table
        (λ x i e has. (d, ap (λ (ds : List Interface). slice_get ds (length old)) behind ∙ get_last old d, has_type t table makes.functions d makes.is x i has))

    pub interface_listed : NewTypesAreListed c (one_interface t) new [] a b
    interface_listed i e at =
        elim (resolved_listed c t.place (belongs.Interface (length old)) k a b t.members table makes.functions may.of_scope may.built makes.resolves i e at) as (λ _. (slice_get a i ≡ Some e) ⊎ IsListed c (one_interface t) b new [] i e) [
          | inl was ↦ inl was
          | inr is ↦ inr (here i e is)
        ]
