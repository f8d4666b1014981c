-- What is brought in with a scope belongs to it and is listed in it, or is a form that stands where it is written there.
use Rattle.std.proofs.Common.{◌≡◌, ◌⊎◌, ℕ, List, [], ◌∷◌, ◌++◌, length, Option, Some, inl, inr, refl, sym, subst, ap}
use Rattle.std.specs.Prelude.{slice_get}
use Rattle.wit_words.specs.declared.source_map.Span.{Span}
use Rattle.wit_types.specs.declared.kind.«Type».{«Type» as Ref}
use Rattle.wit_types.specs.declared.kind.«Type».TheVariants.{Id}
use Rattle.wit_types.specs.declared.kind.TypeDefKind.{TypeDefKind}
use Rattle.wit_types.specs.declared.function.Function.{Function}
use Rattle.wit_types.specs.declared.interface.TypeDef.{TypeDef}
use Rattle.wit_types.specs.declared.interface.TypeOwner.{TypeOwner}
use Rattle.wit_lookups.specs.Passed.wit_productions-TypeTree as written
use Rattle.wit_lookups.specs.Passed.wit_productions-TypeTree.{TypeTree, TypeShape, TypeOption, a_type, standing}
use Rattle.wit_lookups.specs.Passed.wit_items-ItemTree.{TypeDefKindTree}
use Rattle.wit_lookups.specs.Passed.wit_scopes-Members.{MemberKind, MemberTree, defined}
use Rattle.wit_lookups.specs.Passed.wit_type_names-TypeNames.{definition_parts}
use Rattle.wit_orders.specs.Needs.{types_of}
use Rattle.wit_resources.specs.Passed.wit_arena-Tree.{Name, Place, Owner, Tree, resource_leaf, value_of}
use Rattle.wit_resources.specs.Passed.wit_arena-Table.{Entries}
use Rattle.wit_resources.specs.Passed.wit_arena-Meaning.{Has, parts}
use Rattle.wit_resources.specs.Passed.wit_arena-Shape.{ShapeTree}
use Rattle.wit_resources.specs.Passed.wit_arena-Arena.{Interns, there, fresh}
use Rattle.wit_resources.specs.Passed.wit_arena-Lower.{Lowers, lowers_primitive, lowers_name, lowers_composed, LowersShape, lowers_list, lowers_fixed_length_list, lowers_option, lowers_tuple, lowers_result, lowers_own, lowers_borrow, lowers_future, lowers_stream, LowersPart, lowers_nothing, lowers_a_type, LowersParts, lowers_none, lowers_more}
use Rattle.wit_resources.specs.Passed.wit_arena-LowerKind.{LowersKind, lowers_alias, lowers_record, lowers_flags, lowers_enum, lowers_variant, lowers_resource}
use Rattle.wit_resources.specs.Passed.wit_arena-Unfold.{ref_tree, value_tree, trees, IsWhole}
use Rattle.wit_resources.specs.Passed.wit_arena-Standing.{AreStanding, Grows}
use Rattle.wit_resources.proofs.Passed.wit_arena-Lists.{get_more, has_here, has_later, has_left, has_right}
use Rattle.wit_resources.proofs.Passed.wit_arena-Extending.{Extends, extends_self}
use Rattle.wit_resources.proofs.Passed.wit_arena-Growing.{grows_self, grows_through, ref_grown}
use Rattle.wit_resources.proofs.Passed.wit_arena-Meanings.{types_stand_for_their_meaning}
use Rattle.wit_resources.proofs.Passed.wit_arena-Unfolding.{kept_map}
use Rattle.wit_functions.specs.Passed.wit_package_types-Known.{KnownTypes}
use Rattle.wit_functions.specs.Passed.wit_package_types-Standing.{AreOfScope}
use Rattle.wit_functions.specs.Passed.wit_package_types-Fill.{GivesKind, gives_defined, gives_used, Defines, Fills, fills_none, fills_more}
use Rattle.wit_functions.proofs.Passed.wit_package_types-Filled.{filled_types_stand_for_their_meaning}
use Rattle.wit_resolved_scopes.specs.Scope.{AddsFunction, adds_function, passes_type, LowersFunctions, no_members, one_more}
use Rattle.wit_resolved_scopes.specs.Meaning.{written_parts}
use Rattle.wit_resolved_scopes.specs.InArena.{Context, GrowsFor, IsBuilt}
use Rattle.wit_resolved_scopes.specs.WrittenTypes.{IsWithin, itself, in_list, in_fixed_length_list, in_option, in_tuple, in_ok, in_err, in_future, in_stream, IsWrittenIn, in_definition, in_function, IsFormIn}
use Rattle.wit_resolved_scopes.specs.Listed.{NewTypesBelong, IsListedIn, ResolvedScopesListTheirTypes}
use Rattle.wit_resolved_scopes.proofs.Again.{lowered_again}
use Rattle.wit_resolved_scopes.proofs.Declaring.{type_among}
use Rattle.wit_resolved_scopes.proofs.Orders.{sorted_has}

-- ---- one arena behind the other

module _ (May : ℕ → TypeDef → Type 0) where
  pub none_new : (a : List TypeDef) → NewTypesBelong May a a
  none_new a i d at = inl at

  pub one_new : (a : List TypeDef) (d : TypeDef) → May (length a) d → NewTypesBelong May a (a ++ d ∷ [])
  one_new a d may i e at = elim (get_more a d e i at) as (λ _. (slice_get a i ≡ Some e) ⊎ May i e) [
    | inl was ↦ inl was
    | inr (is, same) ↦ inr (subst (λ (j : ℕ). May j e) (sym is) (subst (May (length a)) (sym same) may))
  ]

-- where each of two steps adds what may be added by both
pub new_through : (First Second May : ℕ → TypeDef → Type 0) (a b c : List TypeDef) → ((i : ℕ) (d : TypeDef) → First i d → May i d) → ((i : ℕ) (d : TypeDef) → Second i d → May i d)
    → NewTypesBelong First a b → NewTypesBelong Second b c → NewTypesBelong May a c
new_through First Second May a b c from_first from_second first second i d at = elim (second i d at) as (λ _. (slice_get a i ≡ Some d) ⊎ May i d) [
  | inl was ↦ elim (first i d was) as (λ _. (slice_get a i ≡ Some d) ⊎ May i d) [ inl before ↦ inl before | inr may ↦ inr (from_first i d may) ]
  | inr may ↦ inr (from_second i d may)
]

-- ---- forms

-- a tree stays in an arena that grows
value_grown : (c : Context) (given : Owner → Name → Tree) (a b : List TypeDef) (i : ℕ) (t : Tree) → Grows c.owners given a b → value_tree (trees c.owners given a) (Id i) ≡ Some t → value_tree (trees c.owners given b) (Id i) ≡ Some t
value_grown c given a b i t grows = kept_map value_of (ref_tree (trees c.owners given a) (Id i)) (ref_tree (trees c.owners given b) (Id i)) t (λ u. ref_grown c.owners given a b (Id i) u grows)

pub extends_for : (c : Context) (a b : List TypeDef) → GrowsFor c a b → Extends a b
extends_for c a b grows = let g = grows resource_leaf in (g.more, g.grown)

pub form_grown : (c : Context) (o : Place) (ms : List MemberTree) (a b : List TypeDef) (i : ℕ) (d : TypeDef) → GrowsFor c a b → IsFormIn c o ms a i d → IsFormIn c o ms b i d
form_grown c o ms a b i d grows f = record {
  shape = f.shape;
  unnamed = f.unnamed;
  text = f.text;
  written = f.written;
  stands = f.stands;
  names = f.names;
  known = λ given. (types_stand_for_their_meaning c.me c.scopes given c.owners o f.names).kept a b (grows given) (f.known given);
  lowers = lowered_again f.names f.names (λ x has. has) b a a f.text (Id i) (extends_for c a b grows) f.lowers;
  means = λ given. (let m = f.means given in (m.0, value_grown c given a b i m.0 (grows given) m.1, m.2));
}

module _ (c : Context) (o : Place) (ms : List MemberTree) where
  abbrev AddsForms : List TypeDef → List TypeDef → Type 0
  AddsForms a b = NewTypesBelong (IsFormIn c o ms b) a b

  forms_through : (a b d : List TypeDef) → GrowsFor c b d → AddsForms a b → AddsForms b d → AddsForms a d
  forms_through a b d grows = new_through (IsFormIn c o ms b) (IsFormIn c o ms d) (IsFormIn c o ms d) a b d (λ i e f. form_grown c o ms b d i e grows f) (λ i e f. f)

  module _ (table : Entries) where
    -- an arena in which the names of the table stand for what they mean
    abbrev IsReadyFor : List TypeDef → Type 0
    IsReadyFor a = (given : Owner → Name → Tree) → IsWhole c.owners given a × AreStanding c.me c.scopes given c.owners o table a

    -- a step from such an arena to another
    record Steps (a b : List TypeDef) : Type 0 where
      grows : GrowsFor c a b
      ready : IsReadyFor b
      adds : AddsForms a b

    stays : (a : List TypeDef) → IsReadyFor a → Steps a a
    stays a ready = record { grows = λ given. grows_self c.owners given a (ready given).0; ready = ready; adds = none_new (IsFormIn c o ms a) a }

    goes_on : (a b d : List TypeDef) → Steps a b → Steps b d → Steps a d
    goes_on a b d x y = record { grows = λ given. grows_through c.owners given a b d (x.grows given) (y.grows given); ready = y.ready; adds = forms_through a b d y.grows x.adds y.adds }

    abbrev IsWrittenThere : TypeTree → Type 0
    IsWrittenThere e = (t : TypeTree) → IsWithin t e → IsWrittenIn ms t

    abbrev IsPartThere : TypeOption → Type 0
    IsPartThere p = (e : TypeTree) → p ≡ a_type e → IsWrittenThere e

    abbrev ArePartsThere : List TypeOption → Type 0
    ArePartsThere ps = (e : TypeTree) → Has ps (a_type e) → IsWrittenThere e

    -- a type of the shape of its parts goes behind them, if none of it was there
    composed : (a b d : List TypeDef) (s : Span) (sh : TypeShape) (k : ShapeTree) (r : Ref) → IsReadyFor a → Steps a b → LowersShape table a sh b k → Interns b k s d r → IsWrittenIn ms (standing s sh) → Steps a d
    composed a b d s sh k r ready x low (there i e at is same) here = subst (Steps a) (sym same) x
    composed a b d s sh k r ready x low (fresh e is stands last none) here =
        let whole = lowers_composed a b d s sh k (Id (length b)) low (fresh e is stands last none) in
        let lowered = λ (given : Owner → Name → Tree). (types_stand_for_their_meaning c.me c.scopes given c.owners o table).lowered a d (standing s sh) (Id (length b)) (ready given).0 (ready given).1 whole in
        let grows : GrowsFor c b d = λ given. record { more = e ∷ []; grown = last; whole = (lowered given).0.whole } in
        let known = λ (given : Owner → Name → Tree). (types_stand_for_their_meaning c.me c.scopes given c.owners o table).kept a d (lowered given).0 (ready given).1 in
        let form : IsFormIn c o ms d (length b) e = record {
          shape = k;
          unnamed = is;
          text = standing s sh;
          written = here;
          stands = stands;
          names = table;
          known = known;
          lowers = lowered_again table table (λ x has. has) d a d (standing s sh) (Id (length b)) (extends_self d) whole;
          means = λ given. (lowered given).1;
        } in
        record {
          grows = λ given. (lowered given).0;
          ready = λ given. ((lowered given).0.whole, known given);
          adds = forms_through a b d grows x.adds (subst (λ (z : List TypeDef). NewTypesBelong (IsFormIn c o ms d) b z) (sym last) (one_new (IsFormIn c o ms d) b e form));
        }

    mutual
      lowered_steps : (a b : List TypeDef) (e : TypeTree) (r : Ref) → IsReadyFor a → IsWrittenThere e → Lowers table a e b r → Steps a b
      lowered_steps a b e r ready up (lowers_primitive a2 s sh r2 h) = stays a2 ready
      lowered_steps a b e r ready up (lowers_name a2 s x i at) = stays a2 ready
      lowered_steps a b e r ready up (lowers_composed a2 b2 c2 s sh k r2 low int) = composed a2 b2 c2 s sh k r2 ready (shape_steps a2 b2 s sh k ready up low) low int (up (standing s sh) itself)

      shape_steps : (a b : List TypeDef) (s : Span) (sh : TypeShape) (k : ShapeTree) → IsReadyFor a → IsWrittenThere (standing s sh) → LowersShape table a sh b k → Steps a b
      shape_steps a b s sh k ready up (lowers_list a2 b2 e r low) = lowered_steps a2 b2 e r ready (λ t w. up t (in_list s e w)) low
      shape_steps a b s sh k ready up (lowers_fixed_length_list a2 b2 e n r low) = lowered_steps a2 b2 e r ready (λ t w. up t (in_fixed_length_list s e n w)) low
      shape_steps a b s sh k ready up (lowers_option a2 b2 e r low) = lowered_steps a2 b2 e r ready (λ t w. up t (in_option s e w)) low
      shape_steps a b s sh k ready up (lowers_tuple a2 b2 es rs low) = parts_steps a2 b2 (parts es) _ ready (λ e has t w. up t (in_tuple s es e has w)) low
      shape_steps a b s sh k ready up (lowers_result a2 b2 c2 ok err r q low more) =
          let x = part_steps a2 b2 ok r ready (λ e is t w. up t (subst (λ (p : TypeOption). IsWithin t (standing s (written.result p err))) (sym is) (in_ok s e err w))) low in
          goes_on a2 b2 c2 x (part_steps b2 c2 err q x.ready (λ e is t w. up t (subst (λ (p : TypeOption). IsWithin t (standing s (written.result ok p))) (sym is) (in_err s ok e w))) more)
      shape_steps a b s sh k ready up (lowers_own a2 x i at) = stays a2 ready
      shape_steps a b s sh k ready up (lowers_borrow a2 x i at) = stays a2 ready
      shape_steps a b s sh k ready up (lowers_future a2 b2 p r low) =
          part_steps a2 b2 p r ready (λ e is t w. up t (subst (λ (q : TypeOption). IsWithin t (standing s (written.future q))) (sym is) (in_future s e w))) low
      shape_steps a b s sh k ready up (lowers_stream a2 b2 p r low) =
          part_steps a2 b2 p r ready (λ e is t w. up t (subst (λ (q : TypeOption). IsWithin t (standing s (written.stream q))) (sym is) (in_stream s e w))) low

      part_steps : (a b : List TypeDef) (p : TypeOption) (r : Option Ref) → IsReadyFor a → IsPartThere p → LowersPart table a p b r → Steps a b
      part_steps a b p r ready up (lowers_nothing a2) = stays a2 ready
      part_steps a b p r ready up (lowers_a_type a2 b2 e q low) = lowered_steps a2 b2 e q ready (up e refl) low

      parts_steps : (a b : List TypeDef) (ps : List TypeOption) (rs : List (Option Ref)) → IsReadyFor a → ArePartsThere ps → LowersParts table a ps b rs → Steps a b
      parts_steps a b ps rs ready up (lowers_none a2) = stays a2 ready
      parts_steps a b ps rs ready up (lowers_more a2 b2 c2 p ps2 r rs2 low more) =
          let x = part_steps a2 b2 p r ready (λ e is. up e (0, ap (λ (q : TypeOption). Some q) is)) low in
          goes_on a2 b2 c2 x (parts_steps b2 c2 ps2 rs2 x.ready (λ e has. up e (has_later p ps2 (a_type e) has)) more)

    kind_steps : (a b : List TypeDef) (t : TypeDefKindTree) (k : TypeDefKind) → IsReadyFor a → ArePartsThere (definition_parts t) → LowersKind table a t b k → Steps a b
    kind_steps a b t k ready up (lowers_alias b2 e r low) = lowered_steps a b2 e r ready (up e (has_here (a_type e) [])) low
    kind_steps a b t k ready up (lowers_record b2 fs r low names) = parts_steps a b2 _ _ ready up low
    kind_steps a b t k ready up (lowers_flags ls f names) = stays a ready
    kind_steps a b t k ready up (lowers_enum ls e names) = stays a ready
    kind_steps a b t k ready up (lowers_variant b2 cs v low names) = parts_steps a b2 _ _ ready up low
    kind_steps a b t k ready up (lowers_resource fs) = stays a ready

    given_steps : (k : KnownTypes) (a b : List TypeDef) (of : MemberKind) (n : TypeDefKind) → IsReadyFor a → ((t : TypeDefKindTree) → of ≡ defined t → ArePartsThere (definition_parts t)) → GivesKind k table a of b n → Steps a b
    given_steps k a b of n ready up (gives_defined t b2 n2 low) = kind_steps a b2 t n2 ready (up t refl) low
    given_steps k a b of n ready up (gives_used from y i finds) = stays a ready

    -- ---- functions

    function_steps : (a b : List TypeDef) (fs gs : List Function) (m : MemberTree) → IsReadyFor a → Has ms m → AddsFunction table a fs m b gs → Steps a b
    function_steps a b fs gs m ready has (adds_function b2 f of l) = parts_steps a b2 (written_parts m) _ ready (λ e here t w. in_function m e has here w) l.signature.types
    function_steps a b fs gs m ready has (passes_type of) = stays a ready

    functions_steps : (a b : List TypeDef) (ns : List MemberTree) (fs : List Function) → IsReadyFor a → ((m : MemberTree) → Has ns m → Has ms m) → LowersFunctions table a ns b fs → Steps a b
    functions_steps a b ns fs ready among no_members = stays a ready
    functions_steps a b ns fs ready among (one_more ns2 m b2 d fs2 gs l adds) =
        let x = functions_steps a b2 ns2 fs2 ready (λ n has. among n (has_left ns2 (m ∷ []) n has)) l in
        goes_on a b2 d x (function_steps b2 d fs2 gs m x.ready (among m (has_right ns2 (m ∷ []) m (has_here m []))) adds)

-- ---- the types of a scope

module _ (c : Context) (o : Place) (ms : List MemberTree) (k : KnownTypes) (whose : TypeOwner) where
  abbrev Listed : List TypeDef → Entries → ℕ → TypeDef → Type 0
  Listed a table = IsListedIn c o ms whose a table

  -- in an arena that has grown, and with more names
  listed_still : (a b : List TypeDef) (table : Entries) → GrowsFor c a b → (i : ℕ) (d : TypeDef) → Listed a table i d → Listed b table i d
  listed_still a b table grows i d is = elim is as (λ _. Listed b table i d) [ inl form ↦ inl (form_grown c o ms a b i d grows form) | inr named ↦ inr named ]

  listed_more : (a b : List TypeDef) (table more : Entries) → GrowsFor c a b → (i : ℕ) (d : TypeDef) → Listed a table i d → Listed b (table ++ more) i d
  listed_more a b table more grows i d is = elim (listed_still a b table grows i d is) as (λ _. Listed b (table ++ more) i d) [
    | inl form ↦ inl form
    | inr (x, has, its) ↦ inr (x, has_left table more (x, i) has, its)
  ]

  defined_listed : (table : Entries) (b d : List TypeDef) (m : MemberTree) (i : ℕ) → IsReadyFor c o ms table b → Has ms m → Defines k table whose b m d i → ((given : Owner → Name → Tree) → IsWhole c.owners given d)
      → NewTypesBelong (Listed d (table ++ (m.name.text, i) ∷ [])) b d
  defined_listed table b d m i ready has def whole =
      let Here : ℕ → TypeDef → Type 0 = Listed d (table ++ (m.name.text, i) ∷ []) in
      let own : Here (length def.before) def.def = inr (m.name.text, subst (λ (j : ℕ). Has (table ++ (m.name.text, i) ∷ []) (m.name.text, j)) def.id_is (has_right table ((m.name.text, i) ∷ []) (m.name.text, i) (has_here (m.name.text, i) [])), def.is.owner) in
      let x = given_steps c o ms table k b def.before m.kind def.kind ready (λ t is e here u w. in_definition m t e has is here w) def.gives in
      let grows : GrowsFor c def.before d = λ given. record { more = def.def ∷ []; grown = def.last; whole = whole given } in
      new_through (IsFormIn c o ms def.before) Here Here b def.before d (λ j e form. inl (form_grown c o ms def.before d j e grows form)) (λ j e h. h) x.adds
      (subst (NewTypesBelong Here def.before) (sym def.last) (one_new Here def.before def.def own))

  module _ (a : List TypeDef) (built : IsBuilt c k a) where
    filled : (b : List TypeDef) (ns : List MemberTree) (table : Entries) → AreOfScope c.me c.scopes c.owners o whose ns → Fills k whose a ns b table → GrowsFor c a b × IsReadyFor c o ms table b
    filled b ns table of f =
        let law = λ (given : Owner → Name → Tree). (filled_types_stand_for_their_meaning c.me c.scopes given c.owners).filled o whose k a b ns table of (built.whole given) (built.known given) f in
        ((λ given. (law given).0), (λ given. ((law given).0.whole, (law given).1)))

    filled_listed : (b : List TypeDef) (ns : List MemberTree) (table : Entries) → AreOfScope c.me c.scopes c.owners o whose ns → ((m : MemberTree) → Has ns m → Has ms m) → Fills k whose a ns b table → NewTypesBelong (Listed b table) a b
    filled_listed b ns table of among fills_none = none_new (Listed a []) a
    filled_listed b ns table of among (fills_more ns2 m b2 d t i f def) =
        let before : AreOfScope c.me c.scopes c.owners o whose ns2 = record { owner = of.owner; declared = λ n has. of.declared n (has_left ns2 (m ∷ []) n has) } in
        let was = filled b2 ns2 t before f in
        let is = filled d (ns2 ++ m ∷ []) (t ++ (m.name.text, i) ∷ []) of (fills_more ns2 m b2 d t i f def) in
        let Here : ℕ → TypeDef → Type 0 = Listed d (t ++ (m.name.text, i) ∷ []) in
        let one = defined_listed t b2 d m i was.1 (among m (has_right ns2 (m ∷ []) m (has_here m []))) def (λ given. (is.0 given).whole) in
        let x = given_steps c o ms t k b2 def.before m.kind def.kind was.1 (λ u e here has v w. in_definition m u here (among m (has_right ns2 (m ∷ []) m (has_here m []))) e has w) def.gives in
        let grows : GrowsFor c b2 d = λ given. grows_through c.owners given b2 def.before d (x.grows given) (record { more = def.def ∷ []; grown = def.last; whole = (is.0 given).whole }) in
        new_through (Listed b2 t) Here Here a b2 d (listed_more b2 d t ((m.name.text, i) ∷ []) grows) (λ j e h. h) (filled_listed b2 ns2 t before (λ n has. among n (has_left ns2 (m ∷ []) n has)) f) one

pub resolved_listed : ResolvedScopesListTheirTypes
resolved_listed c o whose k a b ms table fs of built r =
    let types_are = r.types_are in
    let in_order : (m : MemberTree) → Has types_are.sorted m → Has (types_of ms) m = λ m has. sorted_has (types_of ms) types_are.sorted types_are.are_sorted m has in
    let of_sorted : AreOfScope c.me c.scopes c.owners o whose types_are.sorted = record { owner = of.owner; declared = λ m has. of.declared m (in_order m has) } in
    let f = filled c o ms k whose a built r.between types_are.sorted table of_sorted types_are.fills in
    let x = functions_steps c o ms table r.between b ms fs f.1 (λ m has. has) r.functions in
    let Here : ℕ → TypeDef → Type 0 = IsListedIn c o ms whose b table in
    new_through (IsListedIn c o ms whose r.between table) (IsFormIn c o ms b) Here a r.between b (listed_still c o ms k whose r.between b table x.grows) (λ i d form. inl form)
    (filled_listed c o ms k whose a built r.between types_are.sorted table of_sorted (λ m has. (type_among ms m (in_order m has)).1) types_are.fills) x.adds
