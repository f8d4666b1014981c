-- Needs that are parted, one by one.
use Rattle.std.proofs.Common.{◌≡◌, ℕ, ◌+◌, ◌<◌, zero, suc, Bool, true, false, ◌||◌, List, [], ◌∷◌, ◌++◌, ◌⊎◌, inl, inr, length, length-set, Option, Some, None, IfSome, IfNone, is_some, bytes_eq, map, set, take, get_or, refl, sym, subst, ap, ◌∙◌, arith}
use Rattle.std.proofs.lemmas.Bool.{cases_Bool}
use Rattle.std.proofs.lemmas.List.{map_push, map-set, length-map}
use Rattle.std.proofs.lemmas.List.Quantifiers.{position-Some}
use Rattle.std.proofs.lemmas.Option.{same_Some, slice_get_within, slice_get-map, slice_get-get_or}
use Rattle.std.proofs.lemmas.Slice.Eq.{bytes_eq-Decides}
use Rattle.std.specs.List.{list_any, position}
use Rattle.std.specs.Prelude.{Vec, slice_get, option_map}
use Rattle.std.specs.declared.alloc.Global.{Global}
use Rattle.name_places.specs.FirstPlaces.{place_of}
use Rattle.name_places.proofs.Places.{place-is_some}
use Rattle.wit_package_types.specs.Passed.wit_arena-Tree.{Name}
use Rattle.wit_package_types.specs.Passed.wit_arena-Meaning.{Has}
use Rattle.wit_package_types.proofs.Passed.wit_arena-Lists.{get_more, has_none, has_cases, has_here, has_later, has_left, has_map, map_has}
use Rattle.wit_package_types.proofs.Passed.wit_arena-Unfolding.{option_map_some}
use Rattle.wit_foreign.specs.declared.needs.Need.{Need}
use Rattle.wit_foreign.specs.declared.groups.PackagePath.{PackagePath}
use Rattle.wit_foreign.specs.View as seen
use Rattle.wit_foreign.specs.GroupView.{row, rows, path_text}
use Rattle.wit_foreign.specs.Needs.{NeedTree}
use Rattle.wit_foreign.specs.Groups.{AddsNeed, joins, begins, AreGroups, no_groups, one_need_more, AreApart}
use Rattle.wit_foreign.proofs.Gathering.{length_more, has_last, next_need}
use Rattle.wit_foreign.proofs.Standing.{got_at}
use Rattle.wit_foreign.proofs.PackagePaths.{package_eq, package_eq-Decides}

-- ---- tests of lists

pub any_has : {X : Type 0} (test : X → Bool) (xs : List X) (x : X) → Has xs x → test x ≡ true → list_any test xs ≡ true
any_has test [] x has t = absurd (has_none x has)
any_has {X} test (y ∷ xs) x has t =
    elim (has_cases y xs x has) as (λ _. list_any test (y ∷ xs) ≡ true) [
      | inl here ↦ ap (λ (b : Bool). b || list_any test xs) (ap test (sym here) ∙ t)
      | inr later ↦ elim (cases_Bool (test y)) as (λ _. list_any test (y ∷ xs) ≡ true) [
        | inl yes_y ↦ ap (λ (b : Bool). b || list_any test xs) yes_y
        | inr no_y ↦ ap (λ (b : Bool). b || list_any test xs) no_y ∙ any_has test xs x later t
      ]
    ]

pub none_has : {X : Type 0} (test : X → Bool) (xs : List X) → ((x : X) → Has xs x → test x ≡ true → ⊥) → list_any test xs ≡ false
none_has test [] h = refl
none_has {X} test (y ∷ xs) h =
    elim (cases_Bool (test y)) as (λ _. list_any test (y ∷ xs) ≡ false) [
      | inl yes_y ↦ absurd (h y (has_here y xs) yes_y)
      | inr no_y ↦ ap (λ (b : Bool). b || list_any test xs) no_y ∙ none_has test xs (λ x k. h x (has_later y xs x k))
    ]

-- ---- places of packages

module _ (p : PackagePath) (ks : List PackagePath) where
  pub place_found : (o : Option ℕ) → o ≡ position (package_eq p) ks → IfSome o (λ k. slice_get (map path_text ks) k ≡ Some (path_text p))
  place_found (Some k) e =
      let r = position-Some (package_eq p) ks k p (sym e) in
      slice_get-map path_text ks k ∙ ap (option_map path_text) (slice_get-get_or ks k p r.0) ∙ ap (λ t. Some t) (sym ((package_eq-Decides p (get_or ks k p)).0 r.1))
  place_found None e = tt

  pub place_none : (o : Option ℕ) → is_some o ≡ list_any (package_eq p) ks → IfNone o (Has (map path_text ks) (path_text p) → ⊥)
  place_none (Some k) e = tt
  place_none None e = λ has.
      let m = map_has path_text ks (path_text p) has in
      let any : list_any (package_eq p) ks ≡ true = any_has (package_eq p) ks m.0 m.1 ((package_eq-Decides p m.0).1 m.2) in
      absurd (let f : false ≡ true = e ∙ any in cc)

  pub package_new : (Has (map path_text ks) (path_text p) → ⊥) → list_any (package_eq p) ks ≡ false
  package_new absent = none_has (package_eq p) ks (λ k has t. absent (subst (λ t. Has (map path_text ks) t) (sym ((package_eq-Decides p k).0 t)) (has_map path_text ks k has)))

-- a name that has no place isn't there
pub name_new : (name : Name) (ns : List Name) → place_of name ns ≡ None → Has ns name → ⊥
name_new name ns none has =
    let any : list_any (bytes_eq name) ns ≡ true = any_has (bytes_eq name) ns name has ((bytes_eq-Decides name name).1 refl) in
    let f : false ≡ true = ap (λ (o : Option ℕ). is_some o) (sym none) ∙ place-is_some name ns ∙ any in
    absurd cc

-- ---- rows

pub joined : (rs : List (Vec Need Global)) (k : ℕ) (was now : Vec Need Global) (n : Need) → k < length rs → was ≡ get_or rs k was → now.items ≡ was.items ++ n ∷ []
    → (r : List NeedTree) → slice_get (rows rs) k ≡ Some r → rows (set rs k now) ≡ set (rows rs) k (r ++ seen.need n ∷ [])
joined rs k was now n within is items r at =
    let there : slice_get (rows rs) k ≡ Some (row was) = slice_get-map row rs k ∙ ap (option_map row) (slice_get-get_or rs k was within ∙ ap (λ (v : Vec Need Global). Some v) (sym is)) in
    let same : row was ≡ r = same_Some (row was) r (sym there ∙ at) in
    map-set row rs k now ∙ ap (λ (z : List NeedTree). set (rows rs) k z) (ap seen.needs items ∙ map_push seen.need was.items n ∙ ap (λ (z : List NeedTree). z ++ seen.need n ∷ []) same)

module _ {K : Type 0} (key : NeedTree → K) (n : Need) (fs : List Need) (rs : List (Vec Need Global)) (same : length rs ≡ length fs) where
  at_key : (k : ℕ) → slice_get (map key (seen.needs fs)) k ≡ Some (key (seen.need n)) → (f : NeedTree) × (slice_get (seen.needs fs) k ≡ Some f) × (key f ≡ key (seen.need n))
  at_key k at = option_map_some key (slice_get (seen.needs fs) k) (key (seen.need n)) (sym (slice_get-map key (seen.needs fs) k) ∙ at)

  pub within_rows : (k : ℕ) → slice_get (map key (seen.needs fs)) k ≡ Some (key (seen.need n)) → k < length rs
  within_rows k at =
      let f = at_key k at in
      let l = slice_get_within (seen.needs fs) k f.0 f.1 in
      let e = length-map fs seen.need in
      omega (arith, l, e, same)

  pub joins_row : (k : ℕ) → slice_get (map key (seen.needs fs)) k ≡ Some (key (seen.need n)) → (new : List (Vec Need Global)) → ((r : List NeedTree) → slice_get (rows rs) k ≡ Some r → rows new ≡ set (rows rs) k (r ++ seen.need n ∷ []))
      → AddsNeed key (seen.need n) (seen.needs fs) (rows rs) (seen.needs fs) (rows new)
  joins_row k at new is =
      let f = at_key k at in
      let l = within_rows k at in
      let e = length-map rs row in
      let r = got_at (rows rs) k (omega (arith, l, e)) in
      subst (λ (z : List (List NeedTree)). AddsNeed key (seen.need n) (seen.needs fs) (rows rs) (seen.needs fs) z) (sym (is r.0 r.1)) (joins k f.0 r.0 f.1 f.2 r.1)

  pub begins_row : (Has (map key (seen.needs fs)) (key (seen.need n)) → ⊥) → (gs : List Need) (new : List (Vec Need Global)) → seen.needs gs ≡ seen.needs fs ++ seen.need n ∷ [] → rows new ≡ rows rs ++ (seen.need n ∷ []) ∷ []
      → AddsNeed key (seen.need n) (seen.needs fs) (rows rs) (seen.needs gs) (rows new)
  begins_row absent gs new first last =
      subst (λ (z : List NeedTree). AddsNeed key (seen.need n) (seen.needs fs) (rows rs) z (rows new)) (sym first)
      (subst (λ (z : List (List NeedTree)). AddsNeed key (seen.need n) (seen.needs fs) (rows rs) (seen.needs fs ++ seen.need n ∷ []) z) (sym last)
      (begins (λ f has e. absent (subst (λ (x : K). Has (map key (seen.needs fs)) x) e (has_map key (seen.needs fs) f has)))))

module _ {K : Type 0} (key : NeedTree → K) where
  -- as many parts as firsts
  added_rows : (n : NeedTree) (fs : List NeedTree) (rs : List (List NeedTree)) (gs : List NeedTree) (ss : List (List NeedTree)) → AddsNeed key n fs rs gs ss → length rs ≡ length fs → length ss ≡ length gs
  added_rows n fs rs gs ss (joins k f r at_f e at_r) same = length-set rs k (r ++ n ∷ []) ∙ same
  added_rows n fs rs gs ss (begins absent) same = length_more rs (n ∷ []) ∙ ap (λ (z : ℕ). z + 1) same ∙ sym (length_more fs n)

  pub so_many_rows : (ns fs : List NeedTree) (rs : List (List NeedTree)) → AreGroups key ns fs rs → length rs ≡ length fs
  so_many_rows ns fs rs no_groups = refl
  so_many_rows ns fs rs (one_need_more ms gs ss n fs2 rs2 before add) = added_rows n gs ss fs2 rs2 add (so_many_rows ms gs ss before)

  pub rows_of : (ns : List NeedTree) (fs : List Need) (rs : List (Vec Need Global)) → AreGroups key ns (seen.needs fs) (rows rs) → length rs ≡ length fs
  rows_of ns fs rs g = sym (length-map rs row) ∙ so_many_rows ns (seen.needs fs) (rows rs) g ∙ length-map fs seen.need

  module _ (ns : List Need) (k : ℕ) (n : Need) (within : k < length ns) (this : n ≡ get_or ns k n) where
    pub next_group : (fs : List NeedTree) (rs : List (List NeedTree)) (gs : List NeedTree) (ss : List (List NeedTree)) → AreGroups key (seen.needs (take k ns)) fs rs → AddsNeed key (seen.need n) fs rs gs ss
        → AreGroups key (seen.needs (take (k + 1) ns)) gs ss
    next_group fs rs gs ss so_far add =
        subst (λ (xs : List NeedTree). AreGroups key xs gs ss) (sym (next_need ns k n within this)) (one_need_more (seen.needs (take k ns)) fs rs (seen.need n) gs ss so_far add)

-- ---- what parts hold

has_set : {X : Type 0} (xs : List X) (k : ℕ) (x y : X) → Has (set xs k x) y → (y ≡ x) ⊎ Has xs y
has_set [] k x y has = absurd (has_none y has)
has_set (z ∷ xs) zero x y has =
    elim (has_cases x xs y has) as (λ _. (y ≡ x) ⊎ Has (z ∷ xs) y) [
      | inl here ↦ inl here
      | inr later ↦ inr (has_later z xs y later)
    ]
has_set (z ∷ xs) (suc k) x y has =
    elim (has_cases z (set xs k x) y has) as (λ _. (y ≡ x) ⊎ Has (z ∷ xs) y) [
      | inl here ↦ inr (0, ap (λ w. Some w) (sym here))
      | inr later ↦ elim (has_set xs k x y later) as (λ _. (y ≡ x) ⊎ Has (z ∷ xs) y) [ inl same ↦ inl same | inr was ↦ inr (has_later z xs y was) ]
    ]

module _ {K : Type 0} (key : NeedTree → K) where
  pub added_apart : (n : NeedTree) (fs : List NeedTree) (rs : List (List NeedTree)) (gs : List NeedTree) (ss : List (List NeedTree)) → AddsNeed key n fs rs gs ss → AreApart key fs → AreApart key gs
  added_apart n fs rs gs ss (joins k f r at_f e at_r) apart = apart
  added_apart n fs rs gs ss (begins absent) apart = λ j k f g at_j at_k same.
      elim (get_more fs n f j at_j) as (λ _. j ≡ k) [
        | inl was_j ↦ elim (get_more fs n g k at_k) as (λ _. j ≡ k) [
          | inl was_k ↦ apart j k f g was_j was_k same
          | inr last_k ↦ absurd (absent f (j, was_j) (same ∙ ap key last_k.1))
        ]
        | inr last_j ↦ elim (get_more fs n g k at_k) as (λ _. j ≡ k) [
          | inl was_k ↦ absurd (absent g (k, was_k) (sym same ∙ ap key last_j.1))
          | inr last_k ↦ last_j.0 ∙ sym last_k.0
        ]
      ]

  pub groups_apart : (ns fs : List NeedTree) (rs : List (List NeedTree)) → AreGroups key ns fs rs → AreApart key fs
  groups_apart ns fs rs no_groups = λ j k f g at_j. absurd (has_none f (j, at_j))
  groups_apart ns fs rs (one_need_more ms gs ss n fs2 rs2 before add) = added_apart n gs ss fs2 rs2 add (groups_apart ms gs ss before)

  added_first : (n : NeedTree) (ns fs : List NeedTree) (rs : List (List NeedTree)) (gs : List NeedTree) (ss : List (List NeedTree)) → AddsNeed key n fs rs gs ss → ((f : NeedTree) → Has fs f → Has ns f) → (f : NeedTree) → Has gs f → Has (ns ++ n ∷ []) f
  added_first n ns fs rs gs ss (joins k g r at_g e at_r) before f has = has_left ns (n ∷ []) f (before f has)
  added_first n ns fs rs gs ss (begins absent) before f has =
      elim (get_more fs n f has.0 has.1) as (λ _. Has (ns ++ n ∷ []) f) [
        | inl was ↦ has_left ns (n ∷ []) f (before f (has.0, was))
        | inr last ↦ subst (λ (z : NeedTree). Has (ns ++ n ∷ []) z) (sym last.1) (has_last ns n)
      ]

  pub first_needed : (ns fs : List NeedTree) (rs : List (List NeedTree)) → AreGroups key ns fs rs → (f : NeedTree) → Has fs f → Has ns f
  first_needed ns fs rs no_groups f has = absurd (has_none f has)
  first_needed ns fs rs (one_need_more ms gs ss n fs2 rs2 before add) f has = added_first n ms gs ss fs2 rs2 add (first_needed ms gs ss before) f has

  added_row : (n : NeedTree) (ns fs : List NeedTree) (rs : List (List NeedTree)) (gs : List NeedTree) (ss : List (List NeedTree)) → AddsNeed key n fs rs gs ss
      → ((r : List NeedTree) → Has rs r → (m : NeedTree) → Has r m → Has ns m) → (r : List NeedTree) → Has ss r → (m : NeedTree) → Has r m → Has (ns ++ n ∷ []) m
  added_row n ns fs rs gs ss (joins k g q at_g e at_q) before r has m in_r =
      elim (has_set rs k (q ++ n ∷ []) r has) as (λ _. Has (ns ++ n ∷ []) m) [
        | inl same ↦
            (let inside : Has (q ++ n ∷ []) m = subst (λ (z : List NeedTree). Has z m) same in_r in
            elim (get_more q n m inside.0 inside.1) as (λ _. Has (ns ++ n ∷ []) m) [
              | inl was ↦ has_left ns (n ∷ []) m (before q (k, at_q) m (inside.0, was))
              | inr last ↦ subst (λ (z : NeedTree). Has (ns ++ n ∷ []) z) (sym last.1) (has_last ns n)
            ])
        | inr was ↦ has_left ns (n ∷ []) m (before r was m in_r)
      ]
  added_row n ns fs rs gs ss (begins absent) before r has m in_r =
      elim (get_more rs (n ∷ []) r has.0 has.1) as (λ _. Has (ns ++ n ∷ []) m) [
        | inl was ↦ has_left ns (n ∷ []) m (before r (has.0, was) m in_r)
        | inr last ↦
            (let inside : Has (n ∷ []) m = subst (λ (z : List NeedTree). Has z m) last.1 in_r in
            elim (has_cases n [] m inside) as (λ _. Has (ns ++ n ∷ []) m) [
              | inl here ↦ subst (λ (z : NeedTree). Has (ns ++ n ∷ []) z) (sym here) (has_last ns n)
              | inr later ↦ absurd (has_none m later)
            ])
      ]

  pub row_needed : (ns fs : List NeedTree) (rs : List (List NeedTree)) → AreGroups key ns fs rs → (r : List NeedTree) → Has rs r → (m : NeedTree) → Has r m → Has ns m
  row_needed ns fs rs no_groups r has m in_r = absurd (has_none r has)
  row_needed ns fs rs (one_need_more ms gs ss n fs2 rs2 before add) r has m in_r = added_row n ms gs ss fs2 rs2 add (row_needed ms gs ss before) r has m in_r
