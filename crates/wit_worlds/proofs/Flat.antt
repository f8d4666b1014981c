-- Lists that members give one behind the other.
use Rattle.std.proofs.Common.{◌≡◌, ℕ, ◌+◌, ◌≤◌, zero, suc, List, [], ◌∷◌, ◌++◌, length, length-append, Some, take, drop, sym, subst, ap, ◌∙◌, append-nil, append_assoc, add-one, arith}
use Rattle.std.proofs.lemmas.Option.{same_Some}
use Rattle.std.specs.Prelude.{slice_get, flat_map}
use Rattle.wit_foreign.proofs.Passed.wit_rules-Places.{taken}
use Rattle.wit_scopes.proofs.Lists.{flat_map-push}
use Rattle.wit_arena.proofs.Lists.{get_kept, get_last}
use Rattle.wit_resolved_scopes.specs.Each.{Each}
use Rattle.wit_resolved_scopes.proofs.Eaches.{each_push}
use Rattle.wit_worlds.specs.Listing.{ArePaired}

-- what those in front of a place give, what the one there gives, and the rest
pub parts_at : {X Y : Type 0} (f : X → List Y) (xs : List X) (n : ℕ) (x : X) → slice_get xs n ≡ Some x → (rest : List Y) × (flat_map f xs ≡ (flat_map f (take n xs) ++ f x) ++ rest)
parts_at f [] n x at = absurd cc
parts_at {X} {Y} f (z ∷ xs) zero x at = (flat_map f xs, ap (λ (w : X). f w ++ flat_map f xs) (same_Some z x at))
parts_at {X} {Y} f (z ∷ xs) (suc n) x at =
    let r = parts_at f xs n x at in (
      r.0,
      ap (λ (ys : List Y). f z ++ ys) r.1 ∙ sym (append_assoc (f z) (flat_map f (take n xs) ++ f x) r.0) ∙ ap (λ (ys : List Y). ys ++ r.0) (sym (append_assoc (f z) (flat_map f (take n xs)) (f x))),
    )

-- the first that is left stands at its place
drop_first : {Z : Type 0} (zs : List Z) (k : ℕ) (z : Z) (rest : List Z) → drop k zs ≡ z ∷ rest → (slice_get zs k ≡ Some z) × (rest ≡ drop (suc k) zs)
drop_first [] zero z rest h = absurd cc
drop_first [] (suc k) z rest h = absurd cc
drop_first (y ∷ zs) zero z rest h = (cc, cc)
drop_first (y ∷ zs) (suc k) z rest h = drop_first zs k z rest h

module _ {X Y : Type 0} (f : X → List Y) (xs : List X) (n : ℕ) (x : X) (there : slice_get xs n ≡ Some x) where
  pub one_more : flat_map f (take (n + 1) xs) ≡ flat_map f (take n xs) ++ f x
  one_more = ap (flat_map f) (taken xs n x there) ∙ flat_map-push f (take n xs) x

  pub none_more : f x ≡ [] → flat_map f (take (n + 1) xs) ≡ flat_map f (take n xs)
  none_more none = one_more ∙ ap (λ (ys : List Y). flat_map f (take n xs) ++ ys) none ∙ append-nil (flat_map f (take n xs))

  -- all that the members give is at least what those up to the place give
  pub within : length (flat_map f (take n xs)) + length (f x) ≤ length (flat_map f xs)
  within =
      let p = parts_at f xs n x there in
      let all : length (flat_map f xs) ≡ (length (flat_map f (take n xs)) + length (f x)) + length p.0 =
      ap length p.1 ∙ length-append (flat_map f (take n xs) ++ f x) p.0 ∙ ap (λ (m : ℕ). m + length p.0) (length-append (flat_map f (take n xs)) (f x)) in
      omega (arith, all)

  -- a member that gives one takes the first that is left: they stand at one place
  module _ {Z : Type 0} (zs : List Z) (left : List Z) (is : left ≡ drop (length (flat_map f (take n xs))) zs) where
    pub kept : f x ≡ [] → left ≡ drop (length (flat_map f (take (n + 1) xs))) zs
    kept none = is ∙ ap (λ (ys : List Y). drop (length ys) zs) (sym (none_more none))

    module _ (y : Y) (one : f x ≡ y ∷ []) (z : Z) (rest : List Z) (takes : left ≡ z ∷ rest) where
      first : (slice_get zs (length (flat_map f (take n xs))) ≡ Some z) × (rest ≡ drop (suc (length (flat_map f (take n xs)))) zs)
      first = drop_first zs (length (flat_map f (take n xs))) z rest (sym is ∙ takes)

      pub paired : ArePaired (flat_map f xs) zs y z
      paired =
          let p = parts_at f xs n x there in
          let all : flat_map f xs ≡ (flat_map f (take n xs) ++ y ∷ []) ++ p.0 = p.1 ∙ ap (λ (ys : List Y). (flat_map f (take n xs) ++ ys) ++ p.0) one in (
            length (flat_map f (take n xs)),
            ap (λ (ys : List Y). slice_get ys (length (flat_map f (take n xs)))) all ∙ get_kept (flat_map f (take n xs) ++ y ∷ []) p.0 (length (flat_map f (take n xs))) y (get_last (flat_map f (take n xs)) y),
            first.0,
          )

      pub advanced : rest ≡ drop (length (flat_map f (take (n + 1) xs))) zs
      advanced =
          let size : length (flat_map f (take (n + 1) xs)) ≡ suc (length (flat_map f (take n xs))) =
          ap length (one_more ∙ ap (λ (ys : List Y). flat_map f (take n xs) ++ ys) one) ∙ length-append (flat_map f (take n xs)) (y ∷ []) ∙ add-one (length (flat_map f (take n xs))) in
          first.1 ∙ ap (λ (m : ℕ). drop m zs) (sym size)

  -- lists that correspond to what is given
  module _ {Z : Type 0} (Is : Y → Z → Type 0) (zs : List Z) (each : Each Is (flat_map f (take n xs)) zs) where
    pub each_kept : f x ≡ [] → Each Is (flat_map f (take (n + 1) xs)) zs
    each_kept none = subst (λ (ys : List Y). Each Is ys zs) (sym (none_more none)) each

    pub each_pushed : (y : Y) (z : Z) → f x ≡ y ∷ [] → Is y z → Each Is (flat_map f (take (n + 1) xs)) (zs ++ z ∷ [])
    each_pushed y z one is =
        subst (λ (ys : List Y). Each Is ys (zs ++ z ∷ [])) (sym (one_more ∙ ap (λ (ys : List Y). flat_map f (take n xs) ++ ys) one)) (each_push Is (flat_map f (take n xs)) zs y z each is)
