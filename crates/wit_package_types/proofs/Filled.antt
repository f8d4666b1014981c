-- The types of a scope stand for what they mean.
use Rattle.std.proofs.Common.{◌≡◌, ℕ, ◌<◌, List, [], ◌∷◌, ◌++◌, inl, inr, length, Some, sym, subst, ap, ◌∙◌, arith}
use Rattle.std.proofs.lemmas.Option.{slice_get_within}
use Rattle.name_places.proofs.Places.{place_pushed, place_within}
use Rattle.wit_types.specs.declared.kind.«Type».TheVariants as ref
use Rattle.wit_types.specs.declared.kind.TypeDefKind.{TypeDefKind}
use Rattle.wit_types.specs.declared.interface.TypeDef.{TypeDef}
use Rattle.wit_types.specs.declared.interface.TypeOwner.{TypeOwner}
use Rattle.wit_rules.specs.Passed.wit_scopes-Paths.{own, foreign}
use Rattle.wit_rules.specs.Passed.wit_scopes-Members.{MemberKind, MemberTree}
use Rattle.wit_rules.specs.Passed.wit_scopes-Scopes.{ItemScope}
use Rattle.wit_arena.specs.Tree.{Name, PackageText, Place, in_interface, Owner, Tree}
use Rattle.wit_arena.specs.Table.{Entries}
use Rattle.wit_arena.specs.Meaning.{Has, Declares}
use Rattle.wit_arena.specs.Unfold.{Owners, owner_of, IsWhole}
use Rattle.wit_arena.specs.Standing.{Stands, AreStanding, Grows, IsDefinedAs, StandForTheirMeaning}
use Rattle.wit_arena.proofs.Lists.{has_none, has_left, has_right, has_here, get_more}
use Rattle.wit_arena.proofs.Growing.{grows_self, grows_through, ref_grown}
use Rattle.wit_arena.proofs.Meanings.{types_stand_for_their_meaning}
use Rattle.wit_package_types.specs.Foreign.{owner_in}
use Rattle.wit_package_types.specs.Known.{KnownTypes, with_interface}
use Rattle.wit_package_types.specs.Fill.{IsTypeOf, GivesKind, gives_defined, gives_used, Defines, Fills, fills_none, fills_more}
use Rattle.wit_package_types.specs.Standing.{AreKnownStanding, AreOfScope, FilledTypesStand, FilledTypesStandForTheirMeaning}

module _ (me : PackageText) (scopes : List ItemScope) (given : Owner → Name → Tree) (owners : Owners) where
  law : (o : Place) (table : Entries) → StandForTheirMeaning me scopes given owners o table
  law o table = types_stand_for_their_meaning me scopes given owners o table

  stands_grown : (a b : List TypeDef) (o : Place) (x : Name) (i : ℕ) → Grows owners given a b → Stands me scopes given owners a o x i → Stands me scopes given owners b o x i
  stands_grown a b o x i g s = (s.0, ref_grown owners given a b (ref.Id i) s.0 g s.1, s.2)

  known_kept : (k : KnownTypes) (a b : List TypeDef) → Grows owners given a b → AreKnownStanding me scopes given owners k a → AreKnownStanding me scopes given owners k b
  known_kept k a b g h = record {
    own = λ i y j f. stands_grown a b (in_interface i) y j g (h.own i y j f);
    foreign = λ w y j has. ref_grown owners given a b (ref.Id j) (given w y) g (h.foreign w y j has);
  }

  -- a type of a scope stands for what its name means, whatever it is
  kind_stands : (k : KnownTypes) (table : Entries) (a : List TypeDef) (o : Place) (x : Name) (mk : MemberKind) (b : List TypeDef) (n : TypeDefKind) (d : TypeDef)
      → IsWhole owners given a → AreStanding me scopes given owners o table a → AreKnownStanding me scopes given owners k a → Declares scopes o x mk → GivesKind k table a mk b n
      → IsDefinedAs owners (record { package_text = me; place = o }) x n d → Grows owners given a (b ++ d ∷ []) × Stands me scopes given owners (b ++ d ∷ []) o x (length b)
  kind_stands k table a o x mk b n d whole right known decl (gives_defined t b2 n2 low) is = (law o table).brought a b2 x t n2 d whole right decl low is
  kind_stands k table a o x mk b n d whole right known decl (gives_used (own i) y j f) is = (law o table).used_own a x i y j d whole decl (known.own i.text y.text j f) is
  kind_stands k table a o x mk b n d whole right known decl (gives_used (foreign p i) y j f) is = (law o table).used_foreign a x p i y j d whole decl (known.foreign (owner_in p i) y.text j f) is

  defined_as : (o : Place) (owner : TypeOwner) (m : MemberTree) (n : TypeDefKind) (d : TypeDef) → owner_of owners owner ≡ Some (record { package_text = me; place = o }) → IsTypeOf owner m n d
      → IsDefinedAs owners (record { package_text = me; place = o }) m.name.text n d
  defined_as o owner m n d whose is = record { name = is.name; kind = is.kind; owner = ap (owner_of owners) is.owner ∙ whose }

  defined_stands : (k : KnownTypes) (table : Entries) (owner : TypeOwner) (a : List TypeDef) (o : Place) (m : MemberTree) (b : List TypeDef) (i : ℕ)
      → owner_of owners owner ≡ Some (record { package_text = me; place = o }) → IsWhole owners given a → AreStanding me scopes given owners o table a → AreKnownStanding me scopes given owners k a
      → Declares scopes o m.name.text m.kind → Defines k table owner a m b i → Grows owners given a b × Stands me scopes given owners b o m.name.text i
  defined_stands k table owner a o m b i whose whole right known decl d =
      let s = kind_stands k table a o m.name.text m.kind d.before d.kind d.def whole right known decl d.gives (defined_as o owner m d.kind d.def whose d.is) in
      subst (λ (c : List TypeDef). Grows owners given a c × Stands me scopes given owners c o m.name.text i) (sym d.last)
      (subst (λ (j : ℕ). Grows owners given a (d.before ++ d.def ∷ []) × Stands me scopes given owners (d.before ++ d.def ∷ []) o m.name.text j) (sym d.id_is) s)

  filled_stand : (o : Place) (owner : TypeOwner) (k : KnownTypes) (a b : List TypeDef) (ms : List MemberTree) (table : Entries)
      → AreOfScope me scopes owners o owner ms → IsWhole owners given a → AreKnownStanding me scopes given owners k a → Fills k owner a ms b table
      → Grows owners given a b × AreStanding me scopes given owners o table b
  filled_stand o owner k a b ms table scope whole known fills_none = (grows_self owners given a whole, λ x i has. absurd (has_none (x, i) has))
  filled_stand o owner k a b ms table scope whole known (fills_more ms2 m b2 c t i f d) =
      let before = filled_stand o owner k a b2 ms2 t (record { owner = scope.owner; declared = λ n has. scope.declared n (has_left ms2 (m ∷ []) n has) }) whole known f in
      let here = defined_stands k t owner b2 o m c i scope.owner before.0.whole before.1 (known_kept k a b2 before.0 known) (scope.declared m (has_right ms2 (m ∷ []) m (has_here m []))) d in
      (grows_through owners given a b2 c before.0 here.0, (law o t).named c m.name.text i ((law o t).kept b2 c here.0 before.1) here.1)

  known_more : (k : KnownTypes) (a : List TypeDef) (x : Name) (table : Entries) → length k.names ≡ length k.tables
      → AreKnownStanding me scopes given owners k a → AreStanding me scopes given owners (in_interface x) table a → AreKnownStanding me scopes given owners (with_interface k x table) a
  known_more k a x table same known right = record {
    own = λ i y j f. elim (place_pushed i k.names x f.place f.first) as (λ _. Stands me scopes given owners a (in_interface i) y j) [
      | inl was ↦
          elim (get_more k.tables table f.table f.place f.there) as (λ _. Stands me scopes given owners a (in_interface i) y j) [
            | inl there ↦ known.own i y j (record { place = f.place; first = was; table = f.table; there = there; entry = f.entry })
            | inr last ↦ absurd (let less : f.place < length k.names = place_within i k.names f.place was in let e : f.place ≡ length k.tables = last.0 in omega (arith, same))
          ]
      | inr here ↦
          elim (get_more k.tables table f.table f.place f.there) as (λ _. Stands me scopes given owners a (in_interface i) y j) [
            | inl there ↦ absurd (let less : f.place < length k.tables = slice_get_within k.tables f.place f.table there in let e : f.place ≡ length k.names = here.0 in omega (arith, same))
            | inr last ↦ subst (λ (n : Name). Stands me scopes given owners a (in_interface n) y j) (sym here.1) (right y j (subst (λ (t : Entries). Has t (y, j)) last.1 f.entry))
          ]
    ];
    foreign = known.foreign;
  }

  filled_types_stand : FilledTypesStand me scopes given owners
  filled_types_stand = record { filled = filled_stand; known = known_more; kept = known_kept }

pub filled_types_stand_for_their_meaning : FilledTypesStandForTheirMeaning
filled_types_stand_for_their_meaning me scopes given owners = filled_types_stand me scopes given owners
