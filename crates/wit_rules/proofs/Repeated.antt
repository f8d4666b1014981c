-- Keys that are looked for among those before them.
use Rattle.std.proofs.Common.{◌≡◌, ℕ, ◌+◌, ◌<◌, Bool, true, false, List, [], ◌∷◌, ◌++◌, ◌||◌, Option, None, Some, map, take, length, not, cond, Bor, refl, sym, ap, ◌∙◌, add-one, subst, below_more}
use Rattle.std.proofs.Math.Seq.{take-suc}
use Rattle.std.proofs.lemmas.List.{map_push, take-map}
use Rattle.std.proofs.lemmas.Option.{slice_get_within, get_or_from_slice_get, slice_get-map, same_Some}
use Rattle.std.specs.Prelude.{slice_get, option_map}
use Rattle.std.specs.List.{list_any}
use Rattle.wit_rules.specs.Repeats.{IsRepeat}

not_false : (b : Bool) → not b ≡ false → b ≡ true
not_false true e = refl
not_false false e = sym e

not_true : (b : Bool) → not b ≡ true → b ≡ false
not_true true e = sym e
not_true false e = refl

module _ {K : Type 0} (eq : K → K → Bool) where
  -- keys behind references are looked for by themselves
  among : (key : K) (seen : List (Bor K)) → list_any (λ b. eq key b.now) seen ≡ list_any (eq key) (map (λ b. b.now) seen)
  among key [] = refl
  among key (b ∷ seen) = ap (λ r. eq key b.now || r) (among key seen)

  -- a key that none of those before it is
  pub none_before : (keys : List K) (place : ℕ) (key : K) → slice_get keys place ≡ Some key → list_any (eq key) (take place keys) ≡ false → IsRepeat eq keys place → ⊥
  none_before keys place key there none r =
      let same : key ≡ r.key = same_Some key r.key (sym there ∙ r.there) in
      let no : list_any (eq r.key) (take place keys) ≡ false = subst (λ (k : K). list_any (eq k) (take place keys) ≡ false) same none in
      cc (sym r.again ∙ no)

  module _ (keys : List K) (place : ℕ) (key : K) (seen : List (Bor K)) (are : map (λ b. b.now) seen ≡ take place keys) (there : slice_get keys place ≡ Some key) where
    found_is : list_any (λ b. eq key b.now) seen ≡ list_any (eq key) (take place keys)
    found_is = among key seen ∙ ap (list_any (eq key)) are

    -- a key that is one of those before it
    pub repeated : (is_new : Bool) → is_new ≡ not (list_any (λ b. eq key b.now) seen) → is_new ≡ false → IsRepeat eq keys place
    repeated is_new test outcome = record { key = key; there = there; again = sym found_is ∙ not_false (list_any (λ b. eq key b.now) seen) (sym test ∙ outcome) }

    -- a key that is none of those before it
    pub not_repeated : (is_new : Bool) → is_new ≡ not (list_any (λ b. eq key b.now) seen) → is_new ≡ true → IsRepeat eq keys place → ⊥
    not_repeated is_new test outcome r =
        none_before keys place key there (sym found_is ∙ not_true (list_any (λ b. eq key b.now) seen) (sym test ∙ outcome)) r

    -- the keys so far, with one more
    pub keys_more : (item : Bor K) (new : List (Bor K)) (is_new : Bool) → item.now ≡ key → new ≡ cond (list_any (λ b. eq key b.now) seen) seen (seen ++ item ∷ [])
        → is_new ≡ not (list_any (λ b. eq key b.now) seen) → is_new ≡ true → map (λ b. b.now) new ≡ take (place + 1) keys
    keys_more item new is_new item_is inserted test outcome =
        let within : place < length keys = slice_get_within keys place key there in
        let pushed : new ≡ seen ++ item ∷ [] = inserted ∙ ap (λ b. cond b seen (seen ++ item ∷ [])) (not_true (list_any (λ b. eq key b.now) seen) (sym test ∙ outcome)) in
        ap (map (λ b. b.now)) pushed ∙ map_push (λ (b : Bor K). b.now) seen item ∙ ap (λ ks. ks ++ item.now ∷ []) are ∙ ap (λ k. take place keys ++ k ∷ []) item_is
        ∙ sym (rw (add-one, take-suc keys place key within, get_or_from_slice_get keys place key key there) refl)

  -- no repeat below one more place
  pub none_more : (keys : List K) (place : ℕ) → ((p : ℕ) → p < place → IsRepeat eq keys p → ⊥) → (IsRepeat eq keys place → ⊥) → (p : ℕ) → p < place + 1 → IsRepeat eq keys p → ⊥
  none_more keys place below here = below_more (λ p. IsRepeat eq keys p → ⊥) place below here

  -- a repeat stands among the keys
  pub stands_among : (keys : List K) (place : ℕ) → IsRepeat eq keys place → place < length keys
  stands_among keys place r = slice_get_within keys place r.key r.there

-- keys by what they stand for
module _ {K L : Type 0} (eq : L → L → Bool) (view : K → L) where
  any_viewed : (l : L) (ks : List K) → list_any (eq l) (map view ks) ≡ list_any (λ k. eq l (view k)) ks
  any_viewed l [] = refl
  any_viewed l (k ∷ ks) = ap (λ r. eq l (view k) || r) (any_viewed l ks)

  any_before : (l : L) (ks : List K) (place : ℕ) → list_any (eq l) (take place (map view ks)) ≡ list_any (λ k. eq l (view k)) (take place ks)
  any_before l ks place = ap (list_any (eq l)) (take-map view place ks) ∙ any_viewed l (take place ks)

  pub repeat_of_viewed : (ks : List K) (place : ℕ) → IsRepeat eq (map view ks) place → IsRepeat (λ a b. eq (view a) (view b)) ks place
  repeat_of_viewed ks place r = found (slice_get ks place) refl
    where
      found : (o : Option K) → slice_get ks place ≡ o → IsRepeat (λ a b. eq (view a) (view b)) ks place
      found None none = (let e : Some r.key ≡ None = sym r.there ∙ slice_get-map view ks place ∙ ap (option_map view) none in absurd cc)
      found (Some k) there =
          let same : r.key ≡ view k = same_Some r.key (view k) (sym r.there ∙ slice_get-map view ks place ∙ ap (option_map view) there) in
          record { key = k; there = there; again = sym (any_before (view k) ks place) ∙ subst (λ (l : L). list_any (eq l) (take place (map view ks)) ≡ true) same r.again }

  pub viewed_repeat : (ks : List K) (place : ℕ) → IsRepeat (λ a b. eq (view a) (view b)) ks place → IsRepeat eq (map view ks) place
  viewed_repeat ks place r = record { key = view r.key; there = slice_get-map view ks place ∙ ap (option_map view) r.there; again = any_before (view r.key) ks place ∙ r.again }
