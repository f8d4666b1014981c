-- Lists of modules, and of what they stand for.
use Rattle.std.proofs.Common.{◌≡◌, ℕ, ◌+◌, zero, suc, arith, List, [], ◌∷◌, ◌++◌, length, map, Bool, true, false, not, ◌||◌, cond, Option, Some, None, option_map, refl, sym, ap, ◌∙◌}
use Rattle.std.specs.Prelude.{position, nat_lt, slice_set}
use Rattle.std.specs.List.{find, list_any, prefix_len}
use Rattle.std.proofs.lemmas.Bool.{lt-ltb}
use Prim.Native.Nat.compare
use lib.Dec.{is_le}
use Rattle.handed_modules.specs.declared.modules.HandedModule.{HandedModule}
use Rattle.handed_modules.specs.Modules.{ModuleInput, module_input, owner, same_owner, with_module}

pub find_map : {X Y : Type 0} (p : Y → Bool) (h : X → Y) (xs : List X) → find p (map h xs) ≡ option_map h (find (λ x. p (h x)) xs)
find_map p h [] = refl
find_map p h (x ∷ xs) = by (p (h x)) refl (find_map p h xs)
  where
    by : (b : Bool) → p (h x) ≡ b → find p (map h xs) ≡ option_map h (find (λ z. p (h z)) xs) → find p (map h (x ∷ xs)) ≡ option_map h (find (λ z. p (h z)) (x ∷ xs))
    by true t more = rw t refl
    by false t more = rw t more

pub option_map_twice : {X Y Z : Type 0} (f : X → Y) (g : Y → Z) (o : Option X) → option_map g (option_map f o) ≡ option_map (λ x. g (f x)) o
option_map_twice f g None = refl
option_map_twice f g (Some x) = refl

pub any_map : {X Y : Type 0} (p : Y → Bool) (h : X → Y) (xs : List X) → list_any p (map h xs) ≡ list_any (λ x. p (h x)) xs
any_map p h [] = refl
any_map p h (x ∷ xs) = ap (λ (b : Bool). p (h x) || b) (any_map p h xs)

-- ---- the first that passes

abbrev first_place : {X : Type 0} → (X → Bool) → List X → Option ℕ
first_place p [] = None
first_place p (x ∷ xs) = cond (p x) (Some 0) (option_map suc (first_place p xs))

one_later : (k n : ℕ) → cond (nat_lt (suc k) (suc n)) (Some (suc k)) None ≡ option_map suc (cond (nat_lt k n) (Some k) None)
one_later k n = let same : nat_lt (suc k) (suc n) ≡ nat_lt k n = ap is_le (compare.suc-suc (suc k) n) in rw same (by (nat_lt k n))
  where
    by : (b : Bool) → cond b (Some (suc k)) None ≡ option_map suc (cond b (Some k) None)
    by true = refl
    by false = refl

one_more : (k : ℕ) → 1 + k ≡ suc k
one_more k = omega arith

position_is : {X : Type 0} (p : X → Bool) (xs : List X) → position p xs ≡ first_place p xs
position_is p [] = refl
position_is p (x ∷ xs) = by (p x) refl (position_is p xs)
  where
    by : (b : Bool) → p x ≡ b → position p xs ≡ first_place p xs → position p (x ∷ xs) ≡ first_place p (x ∷ xs)
    by true t more = rw t (let first : nat_lt 0 (suc (length xs)) ≡ true = lt-ltb 0 (suc (length xs)) (omega arith) in rw first refl)
    by false t more = rw t
        (ap (λ (m : ℕ). cond (nat_lt m (suc (length xs))) (Some m) None) (one_more (prefix_len (λ y. not (p y)) xs))
        ∙ one_later (prefix_len (λ y. not (p y)) xs) (length xs) ∙ ap (option_map suc) more)

-- ---- a module among others

module _ (m : HandedModule) where
  abbrev pub replaced : HandedModule → Bool
  replaced n = same_owner (owner (module_input m)) (owner (module_input n))

  put_first : (ms : List HandedModule) (k : ℕ) → first_place replaced ms ≡ Some k → map module_input (slice_set ms k m) ≡ with_module (module_input m) (map module_input ms)
  put_first [] k found = absurd cc
  put_first (n ∷ ns) k found = by (replaced n) refl (first_place replaced ns) refl (put_first ns) k found
    where
      by : (b : Bool) → replaced n ≡ b → (o : Option ℕ) → first_place replaced ns ≡ o
          → ((j : ℕ) → first_place replaced ns ≡ Some j → map module_input (slice_set ns j m) ≡ with_module (module_input m) (map module_input ns))
          → (k : ℕ) → first_place replaced (n ∷ ns) ≡ Some k → map module_input (slice_set (n ∷ ns) k m) ≡ with_module (module_input m) (map module_input (n ∷ ns))
      by true t o e more zero found = rw t refl
      by true t o e more (suc k) found = absurd (let bad : Some 0 ≡ Some (suc k) = rw t at found in cc)
      by false t None e more k found = absurd (let bad : None ≡ Some k = rw (t, e) at found in cc)
      by false t (Some j) e more zero found = absurd (let bad : Some (suc j) ≡ Some 0 = rw (t, e) at found in cc)
      by false t (Some j) e more (suc k) found = (
          let same : Some (suc j) ≡ Some (suc k) = rw (t, e) at found in
          let here : j ≡ k = cc in
          rw t (ap (λ (ns : List ModuleInput). module_input n ∷ ns) (more k (e ∙ ap Some here))))

  put_behind : (ms : List HandedModule) → first_place replaced ms ≡ None → map module_input (ms ++ m ∷ []) ≡ with_module (module_input m) (map module_input ms)
  put_behind [] found = refl
  put_behind (n ∷ ns) found = by (replaced n) refl (first_place replaced ns) refl (put_behind ns) found
    where
      by : (b : Bool) → replaced n ≡ b → (o : Option ℕ) → first_place replaced ns ≡ o
          → (first_place replaced ns ≡ None → map module_input (ns ++ m ∷ []) ≡ with_module (module_input m) (map module_input ns))
          → first_place replaced (n ∷ ns) ≡ None → map module_input ((n ∷ ns) ++ m ∷ []) ≡ with_module (module_input m) (map module_input (n ∷ ns))
      by true t o e more found = absurd (let bad : Some 0 ≡ None = rw t at found in cc)
      by false t (Some j) e more found = absurd (let bad : Some (suc j) ≡ None = rw (t, e) at found in cc)
      by false t None e more found = rw t (ap (λ (ns : List ModuleInput). module_input n ∷ ns) (more e))

  pub put_in : (ms : List HandedModule) (k : ℕ) → position replaced ms ≡ Some k → map module_input (slice_set ms k m) ≡ with_module (module_input m) (map module_input ms)
  put_in ms k at = put_first ms k (sym (position_is replaced ms) ∙ at)

  pub put_last : (ms : List HandedModule) → position replaced ms ≡ None → map module_input (ms ++ m ∷ []) ≡ with_module (module_input m) (map module_input ms)
  put_last ms at = put_behind ms (sym (position_is replaced ms) ∙ at)
