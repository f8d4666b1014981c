-- The types that are used, as the needs are gone through.
use Rattle.std.proofs.Common.{◌≡◌, ℕ, ◌+◌, ◌<◌, List, [], ◌∷◌, ◌++◌, inl, inr, length, Some, None, take, get_or, refl, sym, subst, ap, ◌∙◌, arith}
use Rattle.std.proofs.lemmas.Option.{same_Some, slice_get_within}
use Rattle.std.specs.Prelude.{slice_get, option_map}
use Rattle.wit_words.specs.declared.source_map.Span.{Span}
use Rattle.wit_words.specs.Slice.{Slice}
use Rattle.wit_types.specs.declared.interface.TypeDef.{TypeDef}
use Rattle.wit_types.specs.declared.«package».AstItem.TheVariants as ids
use Rattle.wit_lookups.specs.declared.asks.Asked.{Asked}
use Rattle.wit_package_types.specs.Passed.wit_arena-Tree.{Owner}
use Rattle.wit_package_types.specs.Passed.wit_arena-Meaning.{Has}
use Rattle.wit_package_types.proofs.Passed.wit_arena-Lists.{get_kept, get_last, get_more, has_left, has_none}
use Rattle.wit_package_types.proofs.Passed.wit_arena-Unfolding.{option_map_some}
use Rattle.wit_package_types.specs.Foreign.{ForeignName, owner_in}
use Rattle.wit_foreign.specs.declared.needs.Need.{Need}
use Rattle.wit_foreign.specs.View as seen
use Rattle.wit_foreign.specs.Needs.{NeedTree, AreUses}
use Rattle.wit_foreign.specs.Items.{Items, owner_asked, interfaces_in, AreItemsOf}
use Rattle.wit_foreign.specs.Unknown.{name_used, used_name, HasInterface, IsUnknown, IsFirstUse, IsEntryAt, AreUnknown, AddsUsed, no_type, known_type, new_type}
use Rattle.wit_foreign.proofs.Gathering.{length_more, has_last, next_need, next_at}

-- the interface of a type that is used is among the items
pub has_interface : (needs : List NeedTree) (items : Items) → AreItemsOf needs items → AreUses needs → (n : NeedTree) → Has needs n → (y : Slice) → n.name ≡ Some y → HasInterface items (owner_in n.«package» n.item)
has_interface needs items are uses n has y named = record {
  there =
      let r = are.there n has in
      (r.0, subst (λ (w : Owner). Has items (w, r.0)) (ap (λ (a : Asked). owner_asked n.«package» n.item a) (uses n y has named)) r.1);
  interface = λ i h. (interfaces_in (take h.0 items), are.numbered h.0 (owner_in n.«package» n.item) i h.1);
}

pub none_unknown : (items : Items) → AreUnknown items [] [] [] []
none_unknown items = record {
  there = λ n y h. absurd (has_none n h);
  each = λ k e at. absurd (has_none e (k, at));
  so_many_types = refl;
  so_many_spans = refl;
  ordered = λ j k e f q n less at. absurd (has_none e (j, at));
}

module _ (items : Items) (needs : List NeedTree) (n : NeedTree) (a : List TypeDef) (es : List (ForeignName × ℕ)) (ss : List Span) (so_far : AreUnknown items needs a es ss) where
  -- a first use stays the first
  first_still : (name : ForeignName) (place : ℕ) (need : NeedTree) (y : Slice) → IsFirstUse needs name place need y → IsFirstUse (needs ++ n ∷ []) name place need y
  first_still name place need y u = record {
    there = get_kept needs (n ∷ []) place need u.there;
    named = u.named;
    is = u.is;
    first = λ p m less at. elim (get_more needs n m p at) as (λ _. used_name m ≡ Some name → ⊥) [
      | inl was ↦ u.first p m less was
      | inr last ↦ absurd (let l : place < length needs = slice_get_within needs place need u.there in let e : p ≡ length needs = last.0 in omega (arith, less))
    ];
  }

  entry_still : (b : List TypeDef) (ts : List Span) (e : ForeignName × ℕ) (k : ℕ) → IsEntryAt items needs a ss e k → IsEntryAt items (needs ++ n ∷ []) (a ++ b) (ss ++ ts) e k
  entry_still b ts e k h = record {
    id_is = h.id_is;
    def = h.def;
    type_at = get_kept a b k h.def h.type_at;
    span_at = get_kept ss ts k h.def.span h.span_at;
    place = h.place;
    need = h.need;
    name = h.name;
    use_is = first_still e.0 h.place h.need h.name h.use_is;
    interface = h.interface;
    item = h.item;
    is = h.is;
  }

  entry_kept : (e : ForeignName × ℕ) (k : ℕ) → IsEntryAt items needs a ss e k → IsEntryAt items (needs ++ n ∷ []) a ss e k
  entry_kept e k h = record {
    id_is = h.id_is;
    def = h.def;
    type_at = h.type_at;
    span_at = h.span_at;
    place = h.place;
    need = h.need;
    name = h.name;
    use_is = first_still e.0 h.place h.need h.name h.use_is;
    interface = h.interface;
    item = h.item;
    is = h.is;
  }

  abbrev Earlier : ℕ → ForeignName → Type 0
  Earlier q name = (p : ℕ) × (m : NeedTree) × (p < q) × (slice_get (needs ++ n ∷ []) p ≡ Some m) × (used_name m ≡ Some name)

  -- a use of each entry stands among the earlier needs
  used_before : (e : ForeignName × ℕ) (k : ℕ) → slice_get es k ≡ Some e → Earlier (length needs) e.0
  used_before e k at =
      let h = so_far.each k e at in
      let u = h.use_is in
      (h.place, h.need, slice_get_within needs h.place h.need u.there, get_kept needs (n ∷ []) h.place h.need u.there, ap (option_map (name_used h.need)) u.named ∙ ap (λ (z : ForeignName). Some z) u.is)

  ordered_still : (j k : ℕ) (e f : ForeignName × ℕ) (q : ℕ) (m : NeedTree) → j < k → slice_get es j ≡ Some e → slice_get es k ≡ Some f → slice_get (needs ++ n ∷ []) q ≡ Some m → used_name m ≡ Some f.0 → Earlier q e.0
  ordered_still j k e f q m less at_j at_k at_q is =
      elim (get_more needs n m q at_q) as (λ _. Earlier q e.0) [
        | inl was ↦ (let r = so_far.ordered j k e f q m less at_j at_k was is in (r.0, r.1, r.2, get_kept needs (n ∷ []) r.0 r.1 r.3, r.4))
        | inr last ↦ subst (λ (z : ℕ). Earlier z e.0) (sym last.0) (used_before e j at_j)
      ]

  -- nothing comes to what is used
  unchanged : ((y : Slice) → n.name ≡ Some y → (j : ℕ) × Has es (name_used n y, j)) → AreUnknown items (needs ++ n ∷ []) a es ss
  unchanged known = record {
    there = λ m y h. elim (get_more needs n m h.0 h.1) as (λ _. m.name ≡ Some y → (j : ℕ) × Has es (name_used m y, j)) [
      | inl was ↦ so_far.there m y (h.0, was)
      | inr last ↦ subst (λ (z : NeedTree). z.name ≡ Some y → (j : ℕ) × Has es (name_used z y, j)) (sym last.1) (known y)
    ];
    each = λ k e at. entry_kept e k (so_far.each k e at);
    so_many_types = so_far.so_many_types;
    so_many_spans = so_far.so_many_spans;
    ordered = ordered_still;
  }

  module _ (y : Slice) (d : TypeDef) (i : ℕ) (named : n.name ≡ Some y) (absent : (j : ℕ) → Has es (name_used n y, j) → ⊥) (item : Has items ((name_used n y).0, ids.Interface i)) (is : IsUnknown i y d) where
    abbrev entry : ForeignName × ℕ
    entry = (name_used n y, length a)

    abbrev more : List (ForeignName × ℕ)
    more = es ++ entry ∷ []

    there_more : (m : NeedTree) (z : Slice) → Has (needs ++ n ∷ []) m → m.name ≡ Some z → (j : ℕ) × Has more (name_used m z, j)
    there_more m z h =
        elim (get_more needs n m h.0 h.1) as (λ _. m.name ≡ Some z → (j : ℕ) × Has more (name_used m z, j)) [
          | inl was ↦ λ e. (let r = so_far.there m z (h.0, was) e in (r.0, has_left es (entry ∷ []) (name_used m z, r.0) r.1))
          | inr last ↦ λ e.
              (let own : n.name ≡ Some z = subst (λ (x : NeedTree). x.name ≡ Some z) last.1 e in
              let same : z ≡ y = same_Some z y (sym own ∙ named) in
              (length a, subst (λ (x : NeedTree). Has more (name_used x z, length a)) (sym last.1) (subst (λ (x : Slice). Has more (name_used n x, length a)) (sym same) (has_last es entry))))
        ]

    -- none of the earlier needs uses it
    not_before : (p : ℕ) (m : NeedTree) → slice_get needs p ≡ Some m → used_name m ≡ Some (name_used n y) → ⊥
    not_before p m at used =
        let z = option_map_some (name_used m) m.name (name_used n y) used in
        let r = so_far.there m z.0 (p, at) z.1 in
        absent r.0 (subst (λ (x : ForeignName). Has es (x, r.0)) z.2 r.1)

    first_now : IsFirstUse (needs ++ n ∷ []) (name_used n y) (length needs) n y
    first_now = record {
      there = get_last needs n;
      named = named;
      is = refl;
      first = λ p m less at. elim (get_more needs n m p at) as (λ _. used_name m ≡ Some (name_used n y) → ⊥) [
        | inl was ↦ not_before p m was
        | inr last ↦ absurd (let e : p ≡ length needs = last.0 in omega (arith, less))
      ];
    }

    entry_now : IsEntryAt items (needs ++ n ∷ []) (a ++ d ∷ []) (ss ++ y.span ∷ []) entry (length es)
    entry_now = record {
      id_is = so_far.so_many_types;
      def = d;
      type_at = subst (λ (k : ℕ). slice_get (a ++ d ∷ []) k ≡ Some d) so_far.so_many_types (get_last a d);
      span_at = subst (λ (k : ℕ). slice_get (ss ++ y.span ∷ []) k ≡ Some d.span) so_far.so_many_spans (get_last ss y.span ∙ ap (λ (s : Span). Some s) (sym is.span));
      place = length needs;
      need = n;
      name = y;
      use_is = first_now;
      interface = i;
      item = item;
      is = is;
    }

    each_more : (k : ℕ) (e : ForeignName × ℕ) → slice_get more k ≡ Some e → IsEntryAt items (needs ++ n ∷ []) (a ++ d ∷ []) (ss ++ y.span ∷ []) e k
    each_more k e at =
        elim (get_more es entry e k at) as (λ _. IsEntryAt items (needs ++ n ∷ []) (a ++ d ∷ []) (ss ++ y.span ∷ []) e k) [
          | inl was ↦ entry_still (d ∷ []) (y.span ∷ []) e k (so_far.each k e was)
          | inr last ↦
              subst (λ (z : ℕ). IsEntryAt items (needs ++ n ∷ []) (a ++ d ∷ []) (ss ++ y.span ∷ []) e z) (sym last.0)
              (subst (λ (z : ForeignName × ℕ). IsEntryAt items (needs ++ n ∷ []) (a ++ d ∷ []) (ss ++ y.span ∷ []) z (length es)) (sym last.1) entry_now)
        ]

    -- a use of the new entry's is the last need
    ordered_last : (j : ℕ) (e : ForeignName × ℕ) (q : ℕ) (m : NeedTree) → slice_get es j ≡ Some e → slice_get (needs ++ n ∷ []) q ≡ Some m → used_name m ≡ Some (name_used n y) → Earlier q e.0
    ordered_last j e q m at_j at_q used =
        elim (get_more needs n m q at_q) as (λ _. Earlier q e.0) [
          | inl was ↦ absurd (not_before q m was used)
          | inr last ↦ subst (λ (z : ℕ). Earlier z e.0) (sym last.0) (used_before e j at_j)
        ]

    ordered_more : (j k : ℕ) (e f : ForeignName × ℕ) (q : ℕ) (m : NeedTree) → j < k → slice_get more j ≡ Some e → slice_get more k ≡ Some f → slice_get (needs ++ n ∷ []) q ≡ Some m → used_name m ≡ Some f.0 → Earlier q e.0
    ordered_more j k e f q m less at_j at_k at_q used =
        elim (get_more es entry e j at_j) as (λ _. Earlier q e.0) [
          | inl was_j ↦ elim (get_more es entry f k at_k) as (λ _. Earlier q e.0) [
            | inl was_k ↦ ordered_still j k e f q m less was_j was_k at_q used
            | inr last_k ↦ ordered_last j e q m was_j at_q (used ∙ ap (λ (z : ForeignName × ℕ). Some z.0) last_k.1)
          ]
          | inr last_j ↦ elim (get_more es entry f k at_k) as (λ _. Earlier q e.0) [
            | inl was_k ↦ absurd (let l : k < length es = slice_get_within es k f was_k in let h : j ≡ length es = last_j.0 in omega (arith, less))
            | inr last_k ↦ absurd (let h : j ≡ length es = last_j.0 in let g : k ≡ length es = last_k.0 in omega (arith, less))
          ]
        ]

    grown : AreUnknown items (needs ++ n ∷ []) (a ++ d ∷ []) more (ss ++ y.span ∷ [])
    grown = record {
      there = there_more;
      each = each_more;
      so_many_types = length_more a d ∙ ap (λ (k : ℕ). k + 1) so_far.so_many_types ∙ sym (length_more es entry);
      so_many_spans = length_more ss y.span ∙ ap (λ (k : ℕ). k + 1) so_far.so_many_spans ∙ sym (length_more es entry);
      ordered = ordered_more;
    }

  none_named : n.name ≡ None → (y : Slice) → n.name ≡ Some y → (j : ℕ) × Has es (name_used n y, j)
  none_named none y named = absurd (let e : None ≡ Some y = sym none ∙ named in cc)

  same_named : (y : Slice) (j : ℕ) → n.name ≡ Some y → Has es (name_used n y, j) → (z : Slice) → n.name ≡ Some z → (k : ℕ) × Has es (name_used n z, k)
  same_named y j named has z also = (j, subst (λ (x : Slice). Has es (name_used n x, j)) (same_Some y z (sym named ∙ also)) has)

  pub adds : (b : List TypeDef) (fs : List (ForeignName × ℕ)) (ts : List Span) → AddsUsed items n a es ss b fs ts → AreUnknown items (needs ++ n ∷ []) b fs ts
  adds b fs ts (no_type none) = unchanged (none_named none)
  adds b fs ts (known_type y j named has) = unchanged (same_named y j named has)
  adds b fs ts (new_type y d i named absent item is) = grown y d i named absent item is

-- ---- a loop over the needs

module _ (items : Items) (ns : List Need) (k : ℕ) (n : Need) (within : k < length ns) (this : n ≡ get_or ns k n) where
  pub next_interface : AreItemsOf (seen.needs ns) items → AreUses (seen.needs ns) → (y : Slice) → (seen.need n).name ≡ Some y → HasInterface items (owner_in (seen.need n).«package» (seen.need n).item)
  next_interface are uses y named = has_interface (seen.needs ns) items are uses (seen.need n) (k, next_at ns k n within this) y named

  pub adds_next : (a : List TypeDef) (es : List (ForeignName × ℕ)) (ss : List Span) (b : List TypeDef) (fs : List (ForeignName × ℕ)) (ts : List Span) → AreUnknown items (seen.needs (take k ns)) a es ss
      → AddsUsed items (seen.need n) a es ss b fs ts → AreUnknown items (seen.needs (take (k + 1) ns)) b fs ts
  adds_next a es ss b fs ts so_far h =
      subst (λ (xs : List NeedTree). AreUnknown items xs b fs ts) (sym (next_need ns k n within this)) (adds items (seen.needs (take k ns)) (seen.need n) a es ss so_far b fs ts h)
