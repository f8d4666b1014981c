-- Tables by name.
use Rattle.std.proofs.Common.{◌≡◌, ℕ, Option, is_some, Bool, true, false, cond, List, [], ◌∷◌, ◌++◌, ◌⊎◌, inl, inr, Some, None, refl, sym, subst, ap, ◌∙◌, Bor}
use Rattle.std.proofs.lemmas.Option.{same_Some, slice_get-map}
use Rattle.std.proofs.lemmas.Map.Keys.{any_passes_from_place}
use Rattle.std.proofs.lemmas.Slice.Eq.{bytes_eq-Decides}
use Rattle.std.proofs.lemmas.List.{map_push}
use Rattle.std.specs.Prelude.{bytes_eq, map, slice_get, option_map}
use Rattle.std.specs.List.{list_any}
use Rattle.std.specs.Bool.{Decides}
use Rattle.std.specs.Map.{lookup}
use Rattle.wit_arena.specs.Tree.{Name}
use Rattle.wit_arena.specs.Meaning.{Has}
use Rattle.name_places.specs.FirstPlaces.{place_of}
use Rattle.name_places.proofs.Places.{place_names, place-is_some}
use Rattle.wit_arena.specs.declared.table.Entry.{Entry}
use Rattle.wit_arena.specs.Table.{Entries, entries_of, names_of}
use Rattle.wit_arena.proofs.Lists.{has_none, has_here, has_later, has_cases, has_map, map_has}

bool_cases : (b : Bool) → (b ≡ true) ⊎ (b ≡ false)
bool_cases true = inl refl
bool_cases false = inr refl

lookup_some : {K V : Type 0} (test : K → Bool) (es : List (K × V)) (v : V) → lookup test es ≡ Some v → (k : K) × Has es (k, v) × (test k ≡ true)
lookup_some {K} {V} test [] v h = absurd cc
lookup_some {K} {V} test (e ∷ es) v h = by (lookup_some test es v) (test e.0) refl h
  where
    by : (lookup test es ≡ Some v → (k : K) × Has es (k, v) × (test k ≡ true)) → (b : Bool) → test e.0 ≡ b → cond b (Some e.1) (lookup test es) ≡ Some v → (k : K) × Has (e ∷ es) (k, v) × (test k ≡ true)
    by more true t k = (e.0, subst (λ (w : V). Has (e ∷ es) (e.0, w)) (same_Some e.1 v k) (has_here e es), t)
    by more false f k = (let r = more k in (r.0, has_later e es (r.0, v) r.1, r.2))

lookup_none : {K V : Type 0} (test : K → Bool) (es : List (K × V)) (e : K × V) → lookup test es ≡ None → Has es e → test e.0 ≡ false
lookup_none test [] e h has = absurd (has_none e has)
lookup_none {K} {V} test (d ∷ es) e h has = by (lookup_none test es e) (test d.0) refl h has
  where
    by : (lookup test es ≡ None → Has es e → test e.0 ≡ false) → (b : Bool) → test d.0 ≡ b → cond b (Some d.1) (lookup test es) ≡ None → Has (d ∷ es) e → test e.0 ≡ false
    by more true t k had = absurd cc
    by more false f k had = elim (has_cases d es e had) as (λ _. test e.0 ≡ false) [ inl here ↦ ap (λ (z : K × V). test z.0) here ∙ f | inr later ↦ more k later ]

none_lookup : {K V : Type 0} (test : K → Bool) (es : List (K × V)) → ((e : K × V) → Has es e → test e.0 ≡ true → ⊥) → lookup test es ≡ None
none_lookup test [] h = refl
none_lookup {K} {V} test (d ∷ es) h =
    elim (bool_cases (test d.0)) as (λ _. lookup test (d ∷ es) ≡ None) [
      | inl t ↦ absurd (h d (has_here d es) t)
      | inr f ↦ ap (λ (b : Bool). cond b (Some d.1) (lookup test es)) f ∙ none_lookup test es (λ e k. h e (has_later d es e k))
    ]

-- entries of which some test finds those of one name
module _ {K N : Type 0} (view : K → N) (n : N) (test : K → Bool) (decides : (k : K) → Decides (test k) (n ≡ view k)) where
  abbrev viewed : List (K × ℕ) → List (N × ℕ)
  viewed es = map (λ e. (view e.0, e.1)) es

  pub keyed_found : (table : List (N × ℕ)) (es : List (K × ℕ)) (v : ℕ) → viewed es ≡ table → lookup test es ≡ Some v → Has table (n, v)
  keyed_found table es v is h =
      let r = lookup_some test es v h in
      subst (λ (t : List (N × ℕ)). Has t (n, v)) is
      (subst (λ (m : N). Has (viewed es) (m, v)) (sym ((decides r.0).0 r.2)) (has_map (λ (e : K × ℕ). (view e.0, e.1)) es (r.0, v) r.1))

  pub keyed_none : (table : List (N × ℕ)) (es : List (K × ℕ)) (v : ℕ) → viewed es ≡ table → lookup test es ≡ None → Has table (n, v) → ⊥
  keyed_none table es v is none has =
      let m = map_has (λ (e : K × ℕ). (view e.0, e.1)) es (n, v) (subst (λ (t : List (N × ℕ)). Has t (n, v)) (sym is) has) in
      let f : test m.0.0 ≡ false = lookup_none test es m.0 none m.1 in
      let t : test m.0.0 ≡ true = (decides m.0.0).1 (ap (λ (p : N × ℕ). p.0) m.2) in
      cc

  pub keyed_absent : (table : List (N × ℕ)) (es : List (K × ℕ)) → viewed es ≡ table → ((v : ℕ) → Has table (n, v) → ⊥) → lookup test es ≡ None
  keyed_absent table es is fresh =
      none_lookup test es (λ e has t. fresh e.1 (subst (λ (ns : List (N × ℕ)). Has ns (n, e.1)) is
      (subst (λ (m : N). Has (viewed es) (m, e.1)) (sym ((decides e.0).0 t)) (has_map (λ (e : K × ℕ). (view e.0, e.1)) es e has))))

-- a name stands in the entries with what is at its place
pub placed_has : (es : Entries) (name : Name) (p : ℕ) (e : Name × ℕ) → place_of name (names_of es) ≡ Some p → slice_get es p ≡ Some e → Has es (name, e.1)
placed_has es name p e at there =
    let named : Some e.0 ≡ Some name = sym (slice_get-map (λ (e : Name × ℕ). e.0) es p ∙ ap (option_map (λ (e : Name × ℕ). e.0)) there) ∙ place_names name (names_of es) p at in
    subst (λ (n : Name). Has es (n, e.1)) (same_Some e.0 name named) (p, there)

-- a name that has no place has nothing
pub unplaced : (es : Entries) (name : Name) → place_of name (names_of es) ≡ None → (i : ℕ) → Has es (name, i) → ⊥
unplaced es name none i has =
    let named : slice_get (names_of es) has.0 ≡ Some name = slice_get-map (λ (e : Name × ℕ). e.0) es has.0 ∙ ap (option_map (λ (e : Name × ℕ). e.0)) has.1 in
    let any : list_any (bytes_eq name) (names_of es) ≡ true = any_passes_from_place (bytes_eq name) (names_of es) has.0 name named ((bytes_eq-Decides name name).1 refl) in
    absurd (let f : false ≡ true = ap (λ (o : Option ℕ). is_some o) (sym none) ∙ place-is_some name (names_of es) ∙ any in cc)

pub entries_push : (es : List Entry) (e : Entry) → entries_of (es ++ e ∷ []) ≡ entries_of es ++ (e.name.now, e.index) ∷ []
entries_push es e = map_push (λ (e : Entry). (e.name.now, e.index)) es e

pub names_push : (es : Entries) (e : Name × ℕ) → names_of (es ++ e ∷ []) ≡ names_of es ++ e.0 ∷ []
names_push es e = map_push (λ (e : Name × ℕ). e.0) es e
