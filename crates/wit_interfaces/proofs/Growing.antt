-- Interfaces in an arena that grows.
use Rattle.std.proofs.Common.{◌≡◌, ℕ, ◌+◌, ◌<◌, List, [], ◌∷◌, ◌++◌, inl, inr, length, length-append, Some, refl, sym, subst, ap, ◌∙◌, arith}
use Rattle.std.proofs.lemmas.Option.{slice_get_within}
use Rattle.std.specs.Prelude.{slice_get}
use Rattle.wit_types.specs.declared.interface.Interface.{Interface}
use Rattle.wit_types.specs.declared.interface.TypeDef.{TypeDef}
use Rattle.wit_types.specs.declared.interface.TypeOwner.{TypeOwner}
use Rattle.wit_types.specs.declared.interface.TypeOwner.TheVariants as belongs
use Rattle.wit_types.specs.declared.function.Function.{Function}
use Rattle.wit_scopes.specs.Members.{MemberTree}
use Rattle.wit_arena.specs.Tree.{Name, Place, Owner, Tree}
use Rattle.wit_arena.specs.Table.{Entries}
use Rattle.wit_arena.specs.Standing.{Stands, AreStanding}
use Rattle.wit_arena.proofs.Lists.{get_more}
use Rattle.wit_arena.proofs.Growing.{grows_self, grows_through}
use Rattle.wit_resolved_scopes.specs.InArena.{Context, IsTypeIn, IsScopeIn, GrowsFor, IsBuilt}
use Rattle.wit_resolved_scopes.specs.Passed.wit_package_types-Known.{KnownTypes}
use Rattle.wit_resolved_scopes.specs.Texts.{InterfaceText}
use Rattle.wit_resolved_scopes.proofs.Eaches.{each_right}
use Rattle.wit_resolved_scopes.proofs.Listing.{extends_for}
use Rattle.wit_resolved_scopes.proofs.Placing.{scope_grown}
use Rattle.wit_interfaces.specs.Interfaces.{IsInterfaceIn, AreInterfacesIn}

pub grows_for_self : (c : Context) (k : KnownTypes) (a : List TypeDef) → IsBuilt c k a → GrowsFor c a a
grows_for_self c k a built = λ given. grows_self c.owners given a (built.whole given)

pub grows_for_through : (c : Context) (a b d : List TypeDef) → GrowsFor c a b → GrowsFor c b d → GrowsFor c a d
grows_for_through c a b d g h = λ given. grows_through c.owners given a b d (g given) (h given)

-- the types of a scope stand for what they mean
pub standing_in : (c : Context) (o : Place) (whose : TypeOwner) (a : List TypeDef) (ms : List MemberTree) (table : Entries) (fs : List Function) → IsScopeIn c o whose a ms table fs
    → (given : Owner → Name → Tree) → AreStanding c.me c.scopes given c.owners o table a
standing_in c o whose a ms table fs s given x i (k, at) =
    let t = each_right (IsTypeIn c o whose a) s.sorted table s.types_are k (x, i) at in
    subst (λ (y : Name). Stands c.me c.scopes given c.owners a o y i) (sym t.2.name) (t.2.means given)

module _ (c : Context) where
  pub interface_grown : (a b : List TypeDef) → GrowsFor c a b → (t : InterfaceText) (id : ℕ) (d : Interface) → IsInterfaceIn c a t id d → IsInterfaceIn c b t id d
  interface_grown a b g t id d i =
      record { table = i.table; functions = i.functions; is = i.is; scope = scope_grown c a b g (extends_for c a b g) t.place (belongs.Interface id) t.members i.table i.functions i.scope }

  pub interfaces_grown : (a b : List TypeDef) → GrowsFor c a b → (first : ℕ) (ts : List InterfaceText) (ds : List Interface) → AreInterfacesIn c a first ts ds → AreInterfacesIn c b first ts ds
  interfaces_grown a b g first ts ds are = record { so_many = are.so_many; each = λ n t d at_t at_d. interface_grown a b g t (first + n) d (are.each n t d at_t at_d) }

  pub no_interfaces : (a : List TypeDef) (first : ℕ) → AreInterfacesIn c a first [] []
  no_interfaces a first = record { so_many = refl; each = λ n t d at_t at_d. absurd cc }

  pub interfaces_more : (a : List TypeDef) (first : ℕ) (ts : List InterfaceText) (ds : List Interface) (t : InterfaceText) (d : Interface) → AreInterfacesIn c a first ts ds → IsInterfaceIn c a t (first + length ds) d
      → AreInterfacesIn c a first (ts ++ t ∷ []) (ds ++ d ∷ [])
  interfaces_more a first ts ds t d are one = record {
    so_many = length-append ds (d ∷ []) ∙ ap (λ (n : ℕ). n + 1) are.so_many ∙ sym (length-append ts (t ∷ []));
    each = each;
  }
    where
      each : (n : ℕ) (u : InterfaceText) (e : Interface) → slice_get (ts ++ t ∷ []) n ≡ Some u → slice_get (ds ++ d ∷ []) n ≡ Some e → IsInterfaceIn c a u (first + n) e
      each n u e at_u at_e =
          elim (get_more ts t u n at_u) as (λ _. IsInterfaceIn c a u (first + n) e) [
            | inl was_u ↦
                elim (get_more ds d e n at_e) as (λ _. IsInterfaceIn c a u (first + n) e) [
                  | inl was_e ↦ are.each n u e was_u was_e
                  | inr last_e ↦ absurd (let less : n < length ts = slice_get_within ts n u was_u in let is : n ≡ length ds = last_e.0 in omega (arith, are.so_many))
                ]
            | inr last_u ↦
                elim (get_more ds d e n at_e) as (λ _. IsInterfaceIn c a u (first + n) e) [
                  | inl was_e ↦ absurd (let less : n < length ds = slice_get_within ds n e was_e in let is : n ≡ length ts = last_u.0 in omega (arith, are.so_many))
                  | inr last_e ↦
                      subst (λ (m : ℕ). IsInterfaceIn c a u (first + m) e) (sym last_e.0)
                      (subst (λ (z : InterfaceText). IsInterfaceIn c a z (first + length ds) e) (sym last_u.1) (subst (λ (z : Interface). IsInterfaceIn c a t (first + length ds) z) (sym last_e.1) one))
                ]
          ]
