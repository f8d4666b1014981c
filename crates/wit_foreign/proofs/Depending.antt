-- What is asked of other packages, item by item.
use Rattle.std.proofs.Common.{◌≡◌, ℕ, ◌+◌, ◌<◌, Bool, true, false, cond, List, [], ◌∷◌, ◌++◌, ◌⊎◌, inl, inr, length, Some, None, take, get_or, refl, sym, subst, ap, ◌∙◌, arith}
use Rattle.std.proofs.lemmas.Option.{same_Some, slice_get_within, slice_get-map}
use Rattle.std.proofs.lemmas.List.{length-map}
use Rattle.std.specs.Map.{lookup}
use Rattle.std.specs.Prelude.{Vec, slice_get, option_map}
use Rattle.std.specs.declared.alloc.Global.{Global}
use Rattle.wit_lookups.proofs.Passed.wit_rules-Places.{read_at}
use Rattle.wit_types.specs.declared.stability.Stability.{Stability}
use Rattle.wit_lookups.proofs.Asking.{taken_at}
use Rattle.wit_package_types.specs.Passed.wit_arena-Meaning.{Has}
use Rattle.wit_package_types.proofs.Passed.wit_arena-Lists.{get_kept, get_last, get_more, has_none, has_here, has_later}
use Rattle.wit_package_types.specs.Stability.{AreGates, IsStabilityOf}
use Rattle.wit_foreign.specs.declared.needs.Need.{Need}
use Rattle.wit_foreign.specs.View as seen
use Rattle.wit_foreign.specs.GroupView.{row, rows}
use Rattle.wit_foreign.specs.Needs.{NeedTree}
use Rattle.wit_foreign.specs.Groups.{AreGroups, AreApart}
use Rattle.wit_foreign.specs.Deps.{HaveGates, AreStabilities, one_stability_more, AreEntries}
use Rattle.wit_foreign.proofs.Gathering.{length_more, next_need, next_at}
use Rattle.wit_foreign.proofs.Standing.{got_at, length_taken}

module _ (ns : List Need) (k : ℕ) (n : Need) (within : k < length ns) (this : n ≡ get_or ns k n) where
  pub next_gates : HaveGates (seen.needs ns) → AreGates (seen.need n).attributes
  next_gates gates = gates (seen.need n) (k, next_at ns k n within this)

  pub next_stabilities : (ss : List Stability) (s : Stability) → AreStabilities (seen.needs (take k ns)) ss → IsStabilityOf (seen.need n).attributes s → AreStabilities (seen.needs (take (k + 1) ns)) (ss ++ s ∷ [])
  next_stabilities ss s so_far is =
      subst (λ (xs : List NeedTree). AreStabilities xs (ss ++ s ∷ [])) (sym (next_need ns k n within this)) (one_stability_more (seen.needs (take k ns)) ss (seen.need n) s so_far is)

either_bool : (b : Bool) → (b ≡ true) ⊎ (b ≡ false)
either_bool true = inl refl
either_bool false = inr refl

-- a key that no entry has isn't found
pub not_found : {K V : Type 0} (test : K → Bool) (es : List (K × V)) → ((e : K × V) → Has es e → test e.0 ≡ true → ⊥) → lookup test es ≡ None
not_found test [] h = refl
not_found {K} {V} test (d ∷ es) h =
    elim (either_bool (test d.0)) as (λ _. lookup test (d ∷ es) ≡ None) [
      | inl t ↦ absurd (h d (has_here d es) t)
      | inr f ↦ ap (λ (b : Bool). cond b (Some d.1) (lookup test es)) f ∙ not_found test es (λ e k. h e (has_later d es e k))
    ]

-- ---- entries, one by one

module _ {E : Type 0} (IsEntry : NeedTree → List NeedTree → E → Type 0) where
  pub no_entries : (rs : List (List NeedTree)) → AreEntries IsEntry [] rs []
  no_entries rs = record { so_many = refl; each = λ k f r at. absurd (has_none f (k, at)) }

  entries_more : (fs : List NeedTree) (rs : List (List NeedTree)) (es : List E) (f : NeedTree) (r : List NeedTree) (e : E) → AreEntries IsEntry fs rs es → slice_get rs (length fs) ≡ Some r → IsEntry f r e → AreEntries IsEntry (fs ++ f ∷ []) rs (es ++ e ∷ [])
  entries_more fs rs es f r e so_far at_r is = record {
    so_many = length_more es e ∙ ap (λ (z : ℕ). z + 1) so_far.so_many ∙ sym (length_more fs f);
    each = λ k g q at_g at_q. elim (get_more fs f g k at_g) as (λ _. (d : E) × (slice_get (es ++ e ∷ []) k ≡ Some d) × IsEntry g q d) [
      | inl was ↦ (let d = so_far.each k g q was at_q in (d.0, get_kept es (e ∷ []) k d.0 d.1, d.2))
      | inr last ↦
          (let same : r ≡ q = same_Some r q (sym at_r ∙ subst (λ (z : ℕ). slice_get rs z ≡ Some q) last.0 at_q) in
          let here : slice_get (es ++ e ∷ []) k ≡ Some e = subst (λ (z : ℕ). slice_get (es ++ e ∷ []) z ≡ Some e) (so_far.so_many ∙ sym last.0) (get_last es e) in
          (e, here, subst (λ (z : NeedTree). IsEntry z q e) (sym last.1) (subst (λ (z : List NeedTree). IsEntry f z e) same is)))
    ];
  }

  module _ (ns : List Need) (k : ℕ) (n : Need) (within : k < length ns) (this : n ≡ get_or ns k n) (rs : List (List NeedTree)) (es : List E) (so_far : AreEntries IsEntry (seen.needs (take k ns)) rs es) where
    so_many_taken : length (seen.needs (take k ns)) ≡ k
    so_many_taken = length-map (take k ns) seen.need ∙ length_taken ns k (omega (arith, within))

    next_entries : (r : List NeedTree) (e : E) → slice_get rs k ≡ Some r → IsEntry (seen.need n) r e → AreEntries IsEntry (seen.needs (take (k + 1) ns)) rs (es ++ e ∷ [])
    next_entries r e at_r is =
        subst (λ (fs : List NeedTree). AreEntries IsEntry fs rs (es ++ e ∷ [])) (sym (next_need ns k n within this))
        (entries_more (seen.needs (take k ns)) rs es (seen.need n) r e so_far (subst (λ (z : ℕ). slice_get rs z ≡ Some r) (sym so_many_taken) at_r) is)

    -- of a row that code reads
    pub next_read : (r : Vec Need Global) (now : List Need) (e : E) → now ≡ r.items → slice_get rs k ≡ Some (row r) → IsEntry (seen.need n) (seen.needs now) e → AreEntries IsEntry (seen.needs (take (k + 1) ns)) rs (es ++ e ∷ [])
    next_read r now e same at_r is = next_entries (row r) e at_r (subst (λ (xs : List Need). IsEntry (seen.need n) (seen.needs xs) e) same is)

    -- each earlier entry is of another key
    pub earlier_entry : {K : Type 0} (key : NeedTree → K) → AreApart key (seen.needs ns) → length rs ≡ length ns → (e : E) → Has es e → (f : NeedTree) × (r : List NeedTree) × IsEntry f r e × (key f ≡ key (seen.need n) → ⊥)
    earlier_entry key apart same e has =
        let l = slice_get_within es has.0 e has.1 in
        let so_many = so_far.so_many in
        let upto = so_many_taken in
        let f = got_at (seen.needs (take k ns)) has.0 (omega (arith, l, so_many)) in
        let r = got_at rs has.0 (omega (arith, l, so_many, upto, same, within)) in
        let d = so_far.each has.0 f.0 r.0 f.1 r.1 in
        let before = taken_at seen.need ns k has.0 f.0 f.1 in (
          f.0,
          r.0,
          subst (λ (z : E). IsEntry f.0 r.0 z) (same_Some d.0 e (sym d.1 ∙ has.1)) d.2,
          λ one. (let j : has.0 ≡ k = apart has.0 k f.0 (seen.need n) before.1 (next_at ns k n within this) one in let less : has.0 < k = before.0 in absurd (omega (arith, less))),
        )

-- ---- rows

-- the row that code reads at an index
pub row_at : (rs : List (Vec Need Global)) (k : ℕ) (r : Vec Need Global) → k < length rs → r ≡ get_or rs k r → slice_get (rows rs) k ≡ Some (row r)
row_at rs k r within is = slice_get-map row rs k ∙ ap (option_map row) (read_at rs k r within is)

pub groups_read : {K : Type 0} (key : NeedTree → K) (ns : List NeedTree) (fs gs : List Need) (rs ss : List (Vec Need Global)) → gs ≡ fs → ss ≡ rs → AreGroups key ns (seen.needs fs) (rows rs) → AreGroups key ns (seen.needs gs) (rows ss)
groups_read key ns fs gs rs ss e f h =
    subst (λ (z : List Need). AreGroups key ns (seen.needs z) (rows ss)) (sym e) (subst (λ (z : List (Vec Need Global)). AreGroups key ns (seen.needs fs) (rows z)) (sym f) h)
