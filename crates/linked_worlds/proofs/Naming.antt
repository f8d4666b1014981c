-- Names of a world with all that it imports in the end.
use Rattle.std.proofs.Common.{◌≡◌, ℕ, List, [], ◌∷◌, ◌++◌, inl, inr, Some, String, refl, sym, subst, ap, ◌∙◌}
use Rattle.std.specs.Prelude.{map, slice_get, string_bytes}
use Rattle.std.specs.declared.alloc.Global.{Global}
use Rattle.wit_order.specs.Order.{Has}
use Rattle.wit_words.specs.declared.source_map.Span.{Span}
use Rattle.wit_types.specs.declared.function.Function.{Function}
use Rattle.wit_types.specs.declared.interface.Interface.{Interface}
use Rattle.wit_types.specs.declared.world.World.{World}
use Rattle.wit_types.specs.declared.world.WorldItem.{WorldItem}
use Rattle.wit_types.specs.declared.world.WorldItem.TheVariants as item
use Rattle.wit_types.specs.declared.world_key.WorldKey.{WorldKey}
use Rattle.wit_types.specs.declared.world_key.WorldKey.TheVariants as key
use Rattle.wit_types.specs.declared.«package».Package.{Package}
use Rattle.wit_reach.specs.Deps.{AreUsed}
use Rattle.wit_reach.specs.Lists.{item_interface, listed, listed_in, item_types}
use Rattle.wit_reach.specs.Reach.{Uses, IsStart}
use Rattle.wit_reach.proofs.Ends.{closed_ends}
use Rattle.wit_elaborated.specs.Elaborated.{Entry, plain_entries}
use Rattle.wit_elaborated.specs.Worlds.{AreKeysOfItems}
use Rattle.wit_item_names.specs.Passed.wit_copies-Same as same
use Rattle.wit_item_names.specs.Passed.wit_graph_worlds-Copies.{AreSameEntries}
use Rattle.wit_item_names.specs.Passed.wit_graph_worlds-Sound.{IsElaborationOf}
use Rattle.wit_core_names.specs.Texts.{IsNameOf}
use Rattle.right_components.specs.Passed.core_links-Names.{Names}
use Rattle.wit_graph.specs.Graph.{AreWhole}
use Rattle.wit_graph.specs.declared.tables.Tables.{Tables}
use Rattle.linked_worlds.specs.Linked.{AreNamesOf}
use Rattle.wit_item_names.specs.Used.{IsNamed}
use Rattle.linked_worlds.specs.Named.{AreItemsNamed, WorldsHaveTextsApart}
use Rattle.wit_item_names.specs.Passed.wit_plain_texts-Plain.{IsPlain}
use Rattle.wit_item_names.specs.Apart.{AreNamedApart}
use Rattle.wit_item_names.specs.Passed.wit_labels-Plain.{ArePlainApart}
use Rattle.wit_item_names.specs.Plain.{ArePlainlyNamed}
use Rattle.linked_worlds.specs.Texts.{HaveTexts, AreTextsApart}
use Rattle.wit_item_names.proofs.Passed.wit_graph_worlds-Alike.{interface_alike}
use Rattle.linked_worlds.proofs.Asked as asked
use Rattle.linked_worlds.proofs.Listing as listing
use Rattle.linked_worlds.proofs.Told.{text_of_key, texts_apart}

-- ---- entries that say the same

named_key : (k l : WorldKey) → same.IsSameKey k l → (x : String Global) → k ≡ key.Name x → (y : String Global) × (l ≡ key.Name y) × (string_bytes y ≡ string_bytes x)
named_key _ _ (same.same_name z y h) x e = (y, refl, h ∙ ap text_of_key e)
named_key _ _ (same.same_key_interface id) x e = absurd cc

-- the entry of that name
record IsNamedAlike (fs : List Entry) (x : String Global) (a : WorldItem) : Type 0 where
  name : String Global
  it : WorldItem
  has : Has fs (key.Name name, it)
  is : string_bytes name ≡ string_bytes x
  alike : same.IsSameItem a it

named_alike : (es fs : List Entry) → AreSameEntries es fs → (x : String Global) (a : WorldItem) → Has es (key.Name x, a) → IsNamedAlike fs x a
named_alike [] fs h x a has = absurd has
named_alike (e ∷ es) [] h x a has = absurd h
named_alike (e ∷ es) (f ∷ fs) h x a (inl here) =
    let k = named_key e.0 f.0 h.0.0 x (sym (ap (λ (z : Entry). z.0) here)) in
    record {
      name = k.0;
      it = f.1;
      has = inl (ap (λ (z : WorldKey). (z, f.1)) (sym k.1));
      is = k.2;
      alike = subst (λ (b : WorldItem). same.IsSameItem b f.1) (sym (ap (λ (z : Entry). z.1) here)) h.0.1;
    }
named_alike (e ∷ es) (f ∷ fs) h x a (inr later) = (let r = named_alike es fs h.1 x a later in record { name = r.name; it = r.it; has = inr r.has; is = r.is; alike = r.alike })

apart_step : (k l : WorldKey) (a b : WorldItem) (es fs : List Entry) → same.IsSameKey k l → AreSameEntries es fs → ArePlainApart ((l, b) ∷ fs) → (ArePlainApart fs → ArePlainApart es) → ArePlainApart ((k, a) ∷ es)
apart_step _ _ a b es fs (same.same_name x y e) rest apart again = ((λ z c has is. (let r = named_alike es fs rest z c has in apart.0 r.name r.it r.has (e ∙ is ∙ sym r.is))), again apart.1)
apart_step _ _ a b es fs (same.same_key_interface id) rest apart again = again apart

apart_alike : (es fs : List Entry) → AreSameEntries es fs → ArePlainApart fs → ArePlainApart es
apart_alike [] fs h apart = tt
apart_alike (e ∷ es) [] h apart = absurd h
apart_alike (e ∷ es) (f ∷ fs) h apart = apart_step e.0 f.0 e.1 f.1 es fs h.0.0 h.1 apart (apart_alike es fs h.1)

function_alike : (a b : WorldItem) → same.IsSameItem a b → (f : Function) → a ≡ item.Function f → (g : Function) × (b ≡ item.Function g) × (string_bytes g.name ≡ string_bytes f.name)
function_alike _ _ (same.same_interface id s t span h) f e = absurd cc
function_alike _ _ (same.same_function h g is) f e = (let one : h ≡ f = cc in (g, refl, is.name ∙ ap (λ (z : Function). string_bytes z.name) one))
function_alike _ _ (same.same_type id span) f e = absurd cc

type_alike : (a b : WorldItem) → same.IsSameItem a b → (id : ℕ) (span : Span) → a ≡ item.TypeItem id span → b ≡ item.TypeItem id span
type_alike _ _ (same.same_interface i s t at h) id span e = absurd cc
type_alike _ _ (same.same_function f g is) id span e = absurd cc
type_alike _ _ (same.same_type i at) id span e = e

listed_one : (k l : WorldKey) (a b : WorldItem) → same.IsSameKey k l → item_interface b ≡ item_interface a → listed (l, b) ≡ listed (k, a)
listed_one _ _ a b (same.same_name x y h) e = refl
listed_one _ _ a b (same.same_key_interface id) e = e

listed_alike : (es fs : List Entry) → AreSameEntries es fs → listed_in fs ≡ listed_in es
listed_alike [] [] h = refl
listed_alike [] (f ∷ fs) h = absurd h
listed_alike (e ∷ es) [] h = absurd h
listed_alike (e ∷ es) (f ∷ fs) h =
    ap (λ (l : List ℕ). l ++ listed_in fs) (listed_one e.0 f.0 e.1 f.1 h.0.0 (interface_alike e.1 f.1 h.0.1)) ∙ ap (λ (l : List ℕ). listed e ++ l) (listed_alike es fs h.1)

-- ---- behind interfaces

apart_plain : (es : List Entry) → ArePlainApart es → ArePlainApart (plain_entries es)
apart_plain [] apart = tt
apart_plain ((key.Name x, a) ∷ es) apart = ((λ y b has is. apart.0 y b (listing.plain_listed es (key.Name y, b) has) is), apart_plain es apart.1)
apart_plain ((key.Interface i, a) ∷ es) apart = apart_plain es apart

apart_behind : (at : ℕ → WorldItem) (order : List ℕ) (es : List Entry) → ArePlainApart es → ArePlainApart (map (λ (i : ℕ). (key.Interface i, at i)) order ++ es)
apart_behind at [] es apart = apart
apart_behind at (i ∷ is) es apart = apart_behind at is es apart

-- ---- a world of a graph

module _ (t : Tables) (i : ℕ) (n : Names) (whole : AreWhole t) (are : AreNamesOf t i n) (named : AreItemsNamed t) where
  abbrev was : IsElaborationOf t.types t.interfaces.all t.interfaces.uses (asked.listed t i n whole are) n.world
  was = asked.is t i n whole are

  abbrev lists : World
  lists = asked.listed t i n whole are

  abbrev lists_at : slice_get t.worlds.listed i ≡ Some lists
  lists_at = asked.listed_at t i n whole are

  pub keys : AreKeysOfItems n.world.imports.entries
  keys = listing.found_keys t.types t.interfaces.all t.interfaces.uses was.world n.world was.there.keys was.is_elaborated

  of_name : (x : String Global) (a : WorldItem) → Has n.world.imports.entries (key.Name x, a) → IsNamedAlike lists.imports.entries x a
  of_name x a has =
      named_alike was.world.imports.entries lists.imports.entries was.is_listed.imports x a (listing.named_listed t.types t.interfaces.all t.interfaces.uses was.world n.world was.there.keys was.is_elaborated x a has)

  abbrev were : ArePlainlyNamed t.types lists.imports.entries
  were = named.plain i lists lists_at

  pub plainly_named : ArePlainlyNamed t.types n.world.imports.entries
  plainly_named = record {
    apart = subst ArePlainApart (sym was.is_elaborated.imports)
        (apart_behind (λ (j : ℕ). (listing.at t.types t.interfaces.all t.interfaces.uses was.world n.world was.there.keys was.is_elaborated j).1) was.is_elaborated.order (plain_entries was.world.imports.entries)
        (apart_plain was.world.imports.entries (apart_alike was.world.imports.entries lists.imports.entries was.is_listed.imports were.apart)));
    plain = λ x a has. (let r = of_name x a has in subst IsPlain r.is (were.plain r.name r.it r.has));
    functions = λ x f has.
        (let r = of_name x (item.Function f) has in
        let g = function_alike (item.Function f) r.it r.alike f refl in
        sym g.2 ∙ were.functions r.name g.0 (subst (λ (a : WorldItem). Has lists.imports.entries (key.Name r.name, a)) g.1 r.has) ∙ r.is);
    types_are = λ x id span has.
        (let r = of_name x (item.TypeItem id span) has in
        let e = type_alike (item.TypeItem id span) r.it r.alike id span refl in
        subst (IsNameOf t.types id) r.is (were.types_are r.name id span (subst (λ (a : WorldItem). Has lists.imports.entries (key.Name r.name, a)) e r.has)));
  }

  pub texts : AreTextsApart n.known.packages n.known.interfaces n.world.imports.entries
  texts =
      let known : AreNamedApart n.known.packages n.known.interfaces =
      subst (λ (ps : List Package). AreNamedApart ps n.known.interfaces) (sym are.packages_are) (subst (AreNamedApart t.packages) (sym are.interfaces_are) named.apart) in
      texts_apart n.known.packages n.known.interfaces n.world.imports.entries t.types known keys plainly_named

  -- ---- what is imported in the end has a text

  abbrev IsNamedThere : ℕ → Type 0
  IsNamedThere j = IsNamed t.packages t.interfaces.all j

  use_named : (k j : ℕ) → Uses t.interfaces.uses k j → IsNamedThere j
  use_named k j u = (let r = asked.row_of t.types t.interfaces.all t.interfaces.uses whole.whole.rows k j u in named.used.in_interfaces k j r.0 r.1 r.2)

  used_named : (j : ℕ) → AreUsed t.types (item_types was.world) j → IsNamedThere j
  used_named j used = named.used.in_worlds i j lists lists_at (subst (λ (l : List ℕ). AreUsed t.types l j) (sym (asked.types_are t i n whole are)) used)

  start_named : (j : ℕ) → IsStart t.interfaces.uses was.is_elaborated.lists j → IsNamedThere j
  start_named j (inl imported) =
      named.used.imported i j lists lists_at
      (subst (λ (l : List ℕ). Has l j) (sym (listed_alike was.world.imports.entries lists.imports.entries was.is_listed.imports)) (subst (λ (l : List ℕ). Has l j) was.is_elaborated.listed.imports imported))
  start_named j (inr (inl used)) = elim ((was.is_elaborated.listed.used j).0 used) as (λ _. IsNamedThere j) [
    | inl own ↦ used_named j own
    | inr (k, has, u) ↦ use_named k j u
  ]
  start_named j (inr (inr (not, (e, has, u)))) = use_named e j u

  order_named : (j : ℕ) → Has was.is_elaborated.order j → IsNamedThere j
  order_named j h =
      let s = was.is_elaborated.elaboration.only j h in
      closed_ends (Uses t.interfaces.uses) IsNamedThere (λ a b _ u. use_named a b u) s.0 s.2.0 j (start_named s.0 s.1) s.2.1

  known_text : (j : ℕ) → IsNamedThere j → IsNamed n.known.packages n.known.interfaces j
  known_text j h = subst (λ (ps : List Package). IsNamed ps n.known.interfaces j) (sym are.packages_are) (subst (λ (is : List Interface). IsNamed t.packages is j) (sym are.interfaces_are) h)

  pub have_texts : HaveTexts n.known.packages n.known.interfaces n.world.imports.entries
  have_texts (key.Name x) a has = (string_bytes x, refl)
  have_texts (key.Interface j) a has = elim (listing.of_import t.types t.interfaces.all t.interfaces.uses was.world n.world was.there.keys was.is_elaborated (key.Interface j, a) has) as (λ _. IsNamed n.known.packages n.known.interfaces j) [
    | inl (k, ordered, is) ↦
        let e : key.Interface j ≡ key.Interface k = ap (λ (z : Entry). z.0) is in
        let one : j ≡ k = cc in
        known_text j (order_named j (subst (Has was.is_elaborated.order) (sym one) ordered))
    | inr b ↦ absurd (listing.plain_is_named was.world.imports.entries j a b)
  ]

pub worlds_apart : WorldsHaveTextsApart
worlds_apart t i n whole named are = (have_texts t i n whole are named, texts t i n whole are named)
