-- Parts that are brought into an arena one by one.
use Rattle.std.proofs.Common.{◌≡◌, ℕ, ◌<◌, ◌≤◌, ◌+◌, zero, suc, List, [], ◌∷◌, ◌++◌, length, take, drop, get_or, map, Option, ap, sym, subst, ◌∙◌, refl, arith, append_assoc}
use Rattle.std.proofs.lemmas.List.{drop_more, drop_all, append-nil, map_more, map_push}
use Rattle.wit_types.specs.declared.kind.«Type».{«Type» as Ref}
use Rattle.wit_types.specs.declared.interface.TypeDef.{TypeDef}
use Rattle.wit_type_names.specs.Passed.wit_productions-declared-types-Type.{«Type» as Written}
use Rattle.wit_type_names.specs.Passed.wit_productions-TypeTree.{TypeOption, row, no_type}
use Rattle.wit_type_names.specs.Passed.wit_productions-TypeView.{type_tree}
use Rattle.wit_types.specs.Passed.wit_words-Slice.{Slice}
use Rattle.wit_type_names.specs.TypeNames.{names_in_part, names_in_parts, names_in_row}
use Rattle.wit_type_names.specs.TypeView.{type_part}
use Rattle.wit_arena.specs.Meaning.{Has, parts}
use Rattle.wit_arena.specs.Table.{Entries}
use Rattle.wit_arena.specs.Lower.{AreThere, LowersPart, LowersParts, lowers_nothing, lowers_none, lowers_more}
use Rattle.wit_arena.proofs.Lists.{has_none, has_left, has_right}

pub row_parts : (ts : List Written) → parts (row (map type_tree ts)) ≡ map type_part ts
row_parts [] = refl
row_parts (t ∷ ts) = ap (λ (ps : List TypeOption). type_part t ∷ ps) (row_parts ts)

pub row_names : (ts : List Written) → names_in_row (row (map type_tree ts)) ≡ names_in_parts (map type_part ts)
row_names [] = refl
row_names (t ∷ ts) = ap (λ (ns : List Slice). names_in_part (type_part t) ++ ns) (row_names ts)

-- part gives what of each element is a part
module _ {X : Type 0} (part : X → TypeOption) where
  pub there_at : (table : Entries) (xs : List X) (k : ℕ) (x : X) → k < length xs → x ≡ get_or xs k x → AreThere table (names_in_parts (map part xs)) → AreThere table (names_in_part (part x))
  there_at table [] k x l e h = absurd (omega arith)
  there_at table (y ∷ xs) zero x l e h = λ n has. h n (has_left (names_in_part (part y)) (names_in_parts (map part xs)) n (subst (λ (z : X). Has (names_in_part (part z)) n) e has))
  there_at table (y ∷ xs) (suc k) x l e h = there_at table xs k x (omega arith) e (λ n has. h n (has_right (names_in_part (part y)) (names_in_parts (map part xs)) n has))

  -- what a loop keeps: what is brought in from here on, behind what was found, is what is brought in from the start
  abbrev pub GoesOn : Entries → List TypeDef → List X → List TypeDef → List (Option Ref) → ℕ → Type 0
  GoesOn table start xs now found k =
      (c : List TypeDef) (rest : List (Option Ref)) → LowersParts table now (map part (drop k xs)) c rest → LowersParts table start (map part xs) c (found ++ rest)

  more : (xs : List X) (k : ℕ) (x : X) → k < length xs → x ≡ get_or xs k x → map part (drop k xs) ≡ part x ∷ map part (drop (k + 1) xs)
  more xs k x l e = ap (λ (ps : List X). map part ps) (drop_more xs k x l ∙ ap (λ (y : X). y ∷ drop (k + 1) xs) (sym e))

  pub goes_on : (table : Entries) (start : List TypeDef) (xs : List X) (now new : List TypeDef) (found : List (Option Ref)) (k : ℕ) (x : X) (r : Option Ref) → k < length xs → x ≡ get_or xs k x
      → GoesOn table start xs now found k → LowersPart table now (part x) new r → GoesOn table start xs new (found ++ r ∷ []) (k + 1)
  goes_on table start xs now new found k x r l e h low c rest left =
      subst (λ (all : List (Option Ref)). LowersParts table start (map part xs) c all) (sym (append_assoc found (r ∷ []) rest))
      (h c (r ∷ rest) (subst (λ (ps : List TypeOption). LowersParts table now ps c (r ∷ rest)) (sym (more xs k x l e)) (lowers_more now new c (part x) (map part (drop (k + 1) xs)) r rest low left)))

  pub ends : (table : Entries) (start : List TypeDef) (xs : List X) (now : List TypeDef) (found : List (Option Ref)) (k : ℕ) → length xs ≤ k
      → GoesOn table start xs now found k → LowersParts table start (map part xs) now found
  ends table start xs now found k l h =
      subst (λ (all : List (Option Ref)). LowersParts table start (map part xs) now all) (append-nil found)
      (h now [] (subst (λ (left : List X). LowersParts table now (map part left) now []) (sym (drop_all k xs l)) (lowers_none now)))

-- what is said of each element, one more
pub labels_more : {X Y L : Type 0} (f : Y → L) (g : X → L) (found : List Y) (y : Y) (xs : List X) (k : ℕ) (x : X) → k < length xs → x ≡ get_or xs k x
    → map f found ≡ map g (take k xs) → f y ≡ g x → map f (found ++ y ∷ []) ≡ map g (take (k + 1) xs)
labels_more {X} {Y} {L} f g found y xs k x l e so_far same =
    map_push f found y
    ∙ ap (λ (ls : List L). ls ++ f y ∷ []) so_far
    ∙ ap (λ (z : L). map g (take k xs) ++ z ∷ []) (same ∙ ap g e)
    ∙ sym (map_more g xs k x l)

-- parts without types bring nothing in
pub no_types_in : {X : Type 0} (table : Entries) (xs : List X) (a b : List TypeDef) (rs : List (Option Ref)) → LowersParts table a (map (λ x. no_type) xs) b rs → b ≡ a
no_types_in table [] a b rs (lowers_none a2) = refl
no_types_in table (x ∷ xs) a b rs (lowers_more a2 b2 c e es r rs2 low more) = no_types_in table xs b2 c rs2 more ∙ nothing_in table a2 b2 r low
  where
    nothing_in : (table : Entries) (a b : List TypeDef) (r : Option Ref) → LowersPart table a no_type b r → b ≡ a
    nothing_in table a b r (lowers_nothing a2) = refl

-- no names stand in parts without types
pub none_there : {X : Type 0} (table : Entries) (xs : List X) → AreThere table (names_in_parts (map (λ x. no_type) xs))
none_there table [] n has = absurd (has_none n has)
none_there table (x ∷ xs) n has = none_there table xs n has
