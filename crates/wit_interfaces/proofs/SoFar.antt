-- Interfaces one behind the other, as far as they are brought in.
use Rattle.std.proofs.Common.{◌≡◌, ℕ, ◌+◌, ◌<◌, List, [], ◌∷◌, ◌++◌, length, length-append, Some, map, take, refl, sym, subst, ap, ◌∙◌, append_assoc, append-nil, arith}
use Rattle.std.proofs.lemmas.Option.{slice_get_within}
use Rattle.std.proofs.lemmas.List.{map_push, length-map, length-take-le}
use Rattle.std.specs.Prelude.{slice_get}
use Rattle.wit_types.specs.declared.interface.Interface.{Interface}
use Rattle.wit_types.specs.declared.interface.TypeDef.{TypeDef}
use Rattle.wit_types.specs.declared.interface.TypeOwner.TheVariants as belongs
use Rattle.wit_scopes.specs.Scopes.{InterfaceScope}
use Rattle.wit_rules.specs.Breaks.{IsKept}
use Rattle.wit_rules.proofs.Breaking.{AreKept, kept_more}
use Rattle.wit_rules.proofs.Places.{taken}
use Rattle.wit_arena.proofs.Lists.{has_none}
use Rattle.wit_resolved_scopes.specs.Passed.wit_orders-Needs.{types_of}
use Rattle.wit_arena.specs.Tree.{in_interface}
use Rattle.wit_arena.specs.Meaning.{interface_declares}
use Rattle.wit_resolved_scopes.specs.Passed.wit_package_types-Known.{KnownTypes}
use Rattle.wit_resolved_scopes.specs.Each.{AreApartBy}
use Rattle.wit_resolved_scopes.specs.InArena.{Context, IsBuilt}
use Rattle.wit_resolved_scopes.specs.Texts.{interface_text}
use Rattle.wit_resolved_scopes.specs.Fit.{Foreign, AreInterfacesReady, KnowsInterfaces}
use Rattle.wit_resolved_scopes.proofs.Declaring.{type_among}
use Rattle.wit_resolved_scopes.proofs.Fitting.{fit_ready}
use Rattle.wit_resolved_scopes.proofs.Readying.{type_there}
use Rattle.wit_resolved_scopes.proofs.Listing.{none_new}
use Rattle.wit_resolved_scopes.proofs.Placing.{resolved_scopes_are_in, built_more}
use Rattle.wit_resolved_scopes.specs.Texts.{InterfaceText}
use Rattle.wit_interfaces.specs.Interfaces.{IsInterfaceIn, AreInterfacesIn}
use Rattle.wit_interfaces.specs.Adding.{MembersBreak, MayBring, IsReadyIn, AddsInterface, MayAdd, AddsInterfaces}
use Rattle.wit_interfaces.specs.Listed.{one_interface, IsListed, NewTypesAreListed}
use Rattle.wit_interfaces.proofs.Listing.{listed_through, interface_listed}
use Rattle.wit_interfaces.proofs.Growing.{grows_for_self, grows_for_through, standing_in, interfaces_grown, no_interfaces, interfaces_more}
use Rattle.wit_interfaces.proofs.Knowing.{knows_more}

module _ (k0 : KnownTypes) (a0 : List TypeDef) (old : List Interface) (is : List InterfaceScope) where
  pub record SoFar (n : ℕ) (k : KnownTypes) (a : List TypeDef) (new : List Interface) : Type 0 where
    pub even : length k.names ≡ length k.tables
    pub knows : KnowsInterfaces k (take n is)
    pub foreign : k.foreign ≡ k0.foreign
    pub count : length new ≡ length old + n
    pub adds : (c : Context) → MayAdd c k0 a0 (length old) is → AddsInterfaces c a0 old (take n is) k a new
    pub kept : (c : Context) → MayAdd c k0 a0 (length old) is → AreKept (λ i. MembersBreak c (in_interface i.name.text) i.members) is n

  pub none_so_far : k0.names ≡ [] → k0.tables ≡ [] → SoFar 0 k0 a0 old
  none_so_far names tables = record {
    even = ap length names ∙ sym (ap length tables);
    knows = record { names = names; types = λ i has. absurd (has_none i has) };
    foreign = refl;
    count = omega arith;
    adds = λ c may. record { grows = grows_for_self c k0 a0 may.built; built = may.built; more = []; behind = sym (append-nil old); are_in = no_interfaces c a0 (length old); listed = none_new (IsListed c (record { interfaces = []; worlds = [] }) a0 old []) a0 };
    kept = λ c may j x less at. absurd (omega (arith, less));
  }

  module _ (n : ℕ) (i : InterfaceScope) (there : slice_get is n ≡ Some i) (k : KnownTypes) (a : List TypeDef) (new : List Interface) (so_far : SoFar n k a new) where
    so_many : (c : Context) (may : MayAdd c k0 a0 (length old) is) → length new ≡ length old + n
    so_many c may =
        let adds = so_far.adds c may in
        let within : n < length is = slice_get_within is n i there in
        let first : length new ≡ length old + length adds.more = ap length adds.behind ∙ length-append old adds.more in
        let more : length adds.more ≡ length (take n is) = adds.are_in.so_many ∙ length-map (take n is) interface_text in
        let taken_is : length (take n is) ≡ n = length-take-le n is (omega (arith, within)) in
        first ∙ ap (λ (m : ℕ). length old + m) (more ∙ taken_is)

    pub may_bring : (c : Context) → MayAdd c k0 a0 (length old) is → MayBring c (in_interface i.name.text) (belongs.Interface (length new)) k a i.members
    may_bring c may = record {
      of_scope = record {
        owner = ap (slice_get c.owners.interfaces) (so_many c may) ∙ may.owners n i there;
        declared = λ m has. interface_declares i m (may.there i (n, there)) (type_among i.members m has).1;
      };
      built = (so_far.adds c may).built;
    }

    pub ready_next : (others : Foreign) → AreInterfacesReady others is → k0.foreign ≡ others.types → IsReadyIn k (interface_text i)
    ready_next others ready types_are =
        let r = ready.each n i there in
        record { members = fit_ready k (take n is) others so_far.knows (so_far.foreign ∙ types_are) i.members r.members; functions_apart = r.functions_apart; gates = r.gates }

    module _ (apart : AreApartBy (λ j. j.name.text) is) (next_ready : IsReadyIn k (interface_text i)) (k2 : KnownTypes) (b : List TypeDef) (new2 : List Interface) (one : AddsInterface k a new i k2 b new2) where
      next_adds : (c : Context) → MayAdd c k0 a0 (length old) is → AddsInterfaces c a0 old (take (n + 1) is) k2 b new2
      next_adds c may =
          let adds = so_far.adds c may in
          let bring = may_bring c may in
          let t = interface_text i in
          let law = resolved_scopes_are_in c t.place (belongs.Interface (length new)) k a b t.members one.table one.makes.functions bring.of_scope bring.built one.makes.resolves in
          let stands = standing_in c t.place (belongs.Interface (length new)) b t.members one.table one.makes.functions law.2 in
          let at : length new ≡ length old + length adds.more = ap length adds.behind ∙ length-append old adds.more in
          let texts_are : map interface_text (take (n + 1) is) ≡ map interface_text (take n is) ++ t ∷ [] = ap (map interface_text) (taken is n i there) ∙ map_push interface_text (take n is) i in
          record {
            grows = grows_for_through c a0 a b adds.grows law.0;
            built = subst (λ (z : KnownTypes). IsBuilt c z b) (sym one.known) (built_more c k b i.name.text one.table law.1 stands);
            more = adds.more ++ one.made ∷ [];
            behind = one.behind ∙ ap (λ (ds : List Interface). ds ++ one.made ∷ []) adds.behind ∙ append_assoc old adds.more (one.made ∷ []);
            are_in =
                subst (λ (ts : List InterfaceText). AreInterfacesIn c b (length old) ts (adds.more ++ one.made ∷ [])) (sym texts_are)
                (interfaces_more c b (length old) (map interface_text (take n is)) adds.more t one.made (interfaces_grown c a b law.0 (length old) (map interface_text (take n is)) adds.more adds.are_in)
                (subst (λ (m : ℕ). IsInterfaceIn c b t m one.made) at (record { table = one.table; functions = one.makes.functions; is = one.makes.is; scope = law.2 })));
            listed =
                subst (λ (ts : List InterfaceText). NewTypesAreListed c (record { interfaces = ts; worlds = [] }) new2 [] a0 b) (sym texts_are)
                (listed_through c new new2 (one.made ∷ []) one.behind [] [] [] refl (record { interfaces = map interface_text (take n is); worlds = [] }) (one_interface t) a0 a b law.0 adds.listed
                (interface_listed c k a b t new new2 one.table one.made bring one.makes one.behind));
          }

      pub next_so_far : ((c : Context) → MayBring c (in_interface i.name.text) (belongs.Interface (length new)) k a i.members → IsKept (MembersBreak c (in_interface i.name.text) i.members)) → SoFar (n + 1) k2 b new2
      next_so_far kept = record {
        even = ap (λ (z : KnownTypes). length z.names) one.known ∙ length-append k.names (i.name.text ∷ []) ∙ ap (λ (m : ℕ). m + 1) so_far.even ∙ sym (length-append k.tables (one.table ∷ [])) ∙ sym (ap (λ (z : KnownTypes). length z.tables) one.known);
        knows =
            subst (λ (z : KnownTypes). KnowsInterfaces z (take (n + 1) is)) (sym one.known)
            (knows_more is apart n i there k one.table so_far.even so_far.knows
            (λ y has. type_there k (types_of i.members) i.members next_ready.members (belongs.Interface (length new)) a one.makes.resolves.between one.table one.makes.resolves.types_are y has));
        foreign = ap (λ (z : KnownTypes). z.foreign) one.known ∙ so_far.foreign;
        count = let more : length new2 ≡ length new + 1 = ap length one.behind ∙ length-append new (one.made ∷ []) in let was : length new ≡ length old + n = so_far.count in omega (arith, more, was);
        adds = next_adds;
        kept = λ c may. kept_more (λ j. MembersBreak c (in_interface j.name.text) j.members) is n i there (so_far.kept c may) (kept c (may_bring c may));
      }
