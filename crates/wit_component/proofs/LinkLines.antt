-- The entries of the link table, one for each place.
use Rattle.std.proofs.Common.{◌≡◌, ℕ, zero, suc, ◌+◌, ◌<◌, List, [], ◌∷◌, ◌++◌, map, flat_map, length, drop, Option, Some, None, slice_get, slice_index_or, option_and_then, refl, sym, ap, subst, ◌∙◌, arith, append_assoc}
use Rattle.std.specs.Prelude.{false, option_map, IsSorted}
use Rattle.std.specs.Borrow.{Bor}
use Rattle.std.specs.List.{AllByRecursion as Each}
use Rattle.std.specs.Ordering.{is_lt}
use Rattle.link_lines.specs.declared.line.LinkSide.TheVariants.{Import, Export}
use Rattle.std.specs.declared.cmp.Ordering.{Ordering}
use Rattle.std.proofs.lemmas.Option.{slice_get-map, slice_get_read, slice_get_within, same_Some}
use Rattle.plain_worlds.specs.World.{FunctionItem}
use Rattle.wit_component.specs.Linking.{CoreImport, CoreExport, Linking}
use Rattle.link_lines.specs.Line.{LinkValue}
use Rattle.link_lines.specs.Order.{line_cmp}
use Rattle.link_lines.proofs.Sorted.{length_once}
use Rattle.wit_component.specs.Line.{import_line, export_line}
use Rattle.wit_component.specs.Links.{lines}
use Rattle.wit_component.specs.Table.{import_entry, export_entry}
use Rattle.wit_component.specs.Places.{Placed, Places, ArePlaces, ImportPlace, ExportPlace, target, lines_of_import, lines_of_export, import_text, export_text}

placed_at : {X : Type 0} (R : X → ℕ → Type 0) (xs : List X) (ps : List ℕ) (k : ℕ) (x : X) → Placed R xs ps → slice_get xs k ≡ Some x → (p : ℕ) × (slice_get ps k ≡ Some p) × R x p
placed_at R [] [] k x h e = absurd cc
placed_at R [] (p ∷ ps) k x h e = absurd h
placed_at R (y ∷ ys) [] k x h e = absurd h
placed_at {X = X} R (y ∷ ys) (p ∷ ps) zero x h e = let same : y ≡ x = cc in (p, refl, rw (← same) h.0)
placed_at R (y ∷ ys) (p ∷ ps) (suc k) x h e = placed_at R ys ps k x h.1 e

target_at : {X : Type 0} (xs : List X) (ps : List ℕ) (k p : ℕ) (x : X) → slice_get ps k ≡ Some p → slice_get xs p ≡ Some x → target xs ps k ≡ Some x
target_at xs ps k p x e f = ap (option_and_then (slice_get xs)) e ∙ f

pub import_line_at : (l : Linking) (t : Places) → ArePlaces l t → (k : ℕ) (i : CoreImport) → slice_get l.main.imports k ≡ Some i
    → (f : FunctionItem) × (target l.world.imports t.imports k ≡ Some f) × (lines_of_import l i ≡ import_line i.place i.name f.name ∷ [])
import_line_at l t h k i e =
    let p = placed_at (ImportPlace l) l.main.imports t.imports k i h.imports e in
    let f = p.2 in
    (f.0, target_at l.world.imports t.imports k p.0 f.0 p.1 f.1, ap (λ (fs : List FunctionItem). lines (map (import_entry i) fs)) f.2.only)

pub export_line_at : (l : Linking) (t : Places) → ArePlaces l t → (k : ℕ) (f : FunctionItem) → slice_get l.world.exports k ≡ Some f
    → (e : CoreExport) × (target l.main.exports t.exports k ≡ Some e) × (lines_of_export l f ≡ export_line f.name e.name ∷ [])
export_line_at l t h k f is =
    let p = placed_at (ExportPlace l) l.world.exports t.exports k f h.exports is in
    let e = p.2 in
    (e.0, target_at l.main.exports t.exports k p.0 e.0 p.1 e.1, ap (λ (es : List CoreExport). lines (map (export_entry f) es)) e.2.only)

-- ---- a place of the table is there

some_at : {X : Type 0} (xs : List X) (k : ℕ) → k < length xs → (x : X) × (slice_get xs k ≡ Some x)
some_at [] k l = absurd (omega arith)
some_at (x ∷ xs) zero l = (x, refl)
some_at (x ∷ xs) (suc k) l = some_at xs k (omega arith)

pub placed_there : {X : Type 0} (R : X → ℕ → Type 0) (xs : List X) (ps : List ℕ) (k : ℕ) → Placed R xs ps → k < length xs → k < length ps
placed_there R [] [] k h l = l
placed_there R [] (p ∷ ps) k h l = absurd h
placed_there R (x ∷ xs) [] k h l = absurd h
placed_there R (x ∷ xs) (p ∷ ps) zero h l = omega arith
placed_there R (x ∷ xs) (p ∷ ps) (suc k) h l = omega (arith, placed_there R xs ps k h.1 (omega arith))

same_place : (ps : List ℕ) (k p q : ℕ) → k < length ps → p ≡ slice_index_or ps k p → slice_get ps k ≡ Some q → q ≡ p
same_place ps k p q l e f = same_Some q p (sym f ∙ slice_get_read ps (length ps) k p refl l e)

pub import_place_there : (l : Linking) (t : Places) → ArePlaces l t → (k p : ℕ) → k < length l.main.imports → p ≡ slice_index_or t.imports k p → p < length l.world.imports
import_place_there l t h k p there e =
    let i = some_at l.main.imports k there in
    let q = placed_at (ImportPlace l) l.main.imports t.imports k i.0 h.imports i.1 in
    let same = same_place t.imports k p q.0 (placed_there (ImportPlace l) l.main.imports t.imports k h.imports there) e q.1 in
    omega (arith, slice_get_within l.world.imports q.0 q.2.0 q.2.1)

pub export_place_there : (l : Linking) (t : Places) → ArePlaces l t → (k p : ℕ) → k < length l.world.exports → p ≡ slice_index_or t.exports k p → p < length l.main.exports
export_place_there l t h k p there e =
    let f = some_at l.world.exports k there in
    let q = placed_at (ExportPlace l) l.world.exports t.exports k f.0 h.exports f.1 in
    let same = same_place t.exports k p q.0 (placed_there (ExportPlace l) l.world.exports t.exports k h.exports there) e q.1 in
    omega (arith, slice_get_within l.main.exports q.0 q.2.0 q.2.1)

pub target_read : {X : Type 0} (xs : List X) (ps : List ℕ) (k p : ℕ) (x : X) → k < length ps → p ≡ slice_index_or ps k p → p < length xs → x ≡ slice_index_or xs p x → target xs ps k ≡ Some x
target_read xs ps k p x l e m f = target_at xs ps k p x (slice_get_read ps (length ps) k p refl l e) (slice_get_read xs (length xs) p x refl m f)

pub target_map : {X Y : Type 0} (f : X → Y) (xs : List X) (ps : List ℕ) (k : ℕ) (x : X) → target xs ps k ≡ Some x → target (map f xs) ps k ≡ Some (f x)
target_map f xs ps k x e = go (slice_get ps k) refl e
  where
    go : (o : Option ℕ) → slice_get ps k ≡ o → option_and_then (slice_get xs) o ≡ Some x → target (map f xs) ps k ≡ Some (f x)
    go None is h = absurd cc
    go (Some p) is h = ap (option_and_then (slice_get (map f xs))) is ∙ slice_get-map f xs p ∙ ap (option_map f) h

pub target_twice : {X Y Z : Type 0} (f : Y → Z) (e : X → Y) (xs : List X) (ps : List ℕ) (k : ℕ) (x : X) → target xs ps k ≡ Some x → target (map f (map e xs)) ps k ≡ Some (f (e x))
target_twice f e xs ps k x h = target_map f (map e xs) ps k (e x) (target_map e xs ps k x h)

-- ---- one more turn of a loop over a list

module _ {X Y : Type 0} (g : X → List Y) where
  drop_one : (xs : List X) (k : ℕ) (x : X) → slice_get xs k ≡ Some x → drop k xs ≡ x ∷ drop (k + 1) xs
  drop_one [] k x e = absurd cc
  drop_one (y ∷ ys) zero x e = let same : y ≡ x = cc in ap (λ z. z ∷ ys) same
  drop_one (y ∷ ys) (suc k) x e = drop_one ys k x e ∙ ap (λ n. x ∷ drop n (y ∷ ys)) (more k)
    where
      more : (n : ℕ) → suc (n + 1) ≡ suc n + 1
      more n = omega arith

  pub one_turn : (xs : List X) (found : List Y) (k : ℕ) (y : Y) (all : List Y) → found ++ flat_map g (drop k xs) ≡ all → (x : X) × (slice_get xs k ≡ Some x) × (g x ≡ y ∷ [])
      → (found ++ y ∷ []) ++ flat_map g (drop (k + 1) xs) ≡ all
  one_turn xs found k y all so_far (x, is, one) =
      append_assoc found (y ∷ []) (flat_map g (drop (k + 1) xs)) ∙ ap (λ (ys : List Y). found ++ (ys ++ flat_map g (drop (k + 1) xs))) (sym one) ∙ ap (λ (zs : List X). found ++ flat_map g zs) (sym (drop_one xs k x is)) ∙ so_far

-- ---- lengths of views

pub length_twice : {X Y Z : Type 0} (f : Y → Z) (e : X → Y) (xs : List X) → length (map f (map e xs)) ≡ length xs
length_twice f e xs = length_once f (map e xs) ∙ length_once e xs

-- ---- the entry at a place, as code reads it

pub get_twice : {X Y Z : Type 0} (f : Y → Z) (e : X → Y) (xs : List X) (k : ℕ) (x : X) → k < length xs → x ≡ slice_index_or xs k x → slice_get (map f (map e xs)) k ≡ Some (f (e x))
get_twice f e xs k x l is = slice_get-map f (map e xs) k ∙ ap (option_map f) (slice_get-map e xs k ∙ ap (option_map e) (slice_get_read xs (length xs) k x refl l is))

pub get_once : {X Y : Type 0} (f : X → Y) (xs : List X) (k : ℕ) (x : X) → k < length xs → x ≡ slice_index_or xs k x → slice_get (map f xs) k ≡ Some (f x)
get_once f xs k x l is = slice_get-map f xs k ∙ ap (option_map f) (slice_get_read xs (length xs) k x refl l is)

pub import_entry_read : (l : Linking) (t : Places) → ArePlaces l t → (k : ℕ) (i : CoreImport) (f : FunctionItem) → slice_get l.main.imports k ≡ Some i → target l.world.imports t.imports k ≡ Some f
    → lines_of_import l i ≡ import_line i.place i.name f.name ∷ []
import_entry_read l t h k i f is e =
    let g = import_line_at l t h k i is in
    let same = same_Some g.0 f (sym g.1 ∙ e) in
    g.2 ∙ ap (λ (x : FunctionItem). import_line i.place i.name x.name ∷ []) same

pub export_entry_read : (l : Linking) (t : Places) → ArePlaces l t → (k : ℕ) (f : FunctionItem) (e : CoreExport) → slice_get l.world.exports k ≡ Some f → target l.main.exports t.exports k ≡ Some e
    → lines_of_export l f ≡ export_line f.name e.name ∷ []
export_entry_read l t h k f e is there =
    let g = export_line_at l t h k f is in
    let same = same_Some g.0 e (sym g.1 ∙ there) in
    g.2 ∙ ap (λ (x : CoreExport). export_line f.name x.name ∷ []) same

-- ---- two lists in order, each item of the second behind each of the first

module _ {X : Type 0} (cmp : X → X → Ordering) (P Q : X → Type 0) (apart : (x y : X) → P x → Q y → is_lt (cmp y x) ≡ false) where
  next : (k : ℕ) → suc (k + 1) ≡ suc k + 1
  next k = omega arith

  sorted_behind : (x : X) (xs : List X) → IsSorted cmp (x ∷ xs) → IsSorted cmp xs
  sorted_behind x xs h = λ k d low high. subst (λ (n : ℕ). is_lt (cmp (slice_index_or (x ∷ xs) n d) (slice_index_or xs k d)) ≡ false) (sym (next k)) (h (suc k) d (omega arith) (omega (arith, high)))

  pub sorted_append : (xs ys : List X) → IsSorted cmp xs → IsSorted cmp ys → Each P xs → Each Q ys → IsSorted cmp (xs ++ ys)
  sorted_append xs ys sx sy px qy = λ k d low high. go xs sx px k d high
    where
      go : (xs : List X) → IsSorted cmp xs → Each P xs → (k : ℕ) (d : X) → k + 1 < length (xs ++ ys) → is_lt (cmp (slice_index_or (xs ++ ys) (k + 1) d) (slice_index_or (xs ++ ys) k d)) ≡ false
      go [] sx px k d high = sy k d (omega arith) high
      go (x ∷ []) sx px zero d high = first ys qy high
        where
          first : (ys : List X) → Each Q ys → 0 + 1 < length (x ∷ ys) → is_lt (cmp (slice_index_or (x ∷ ys) (0 + 1) d) x) ≡ false
          first [] qy high = absurd (omega arith)
          first (y ∷ ys) qy high = apart x y px.0 qy.0
      go (x ∷ z ∷ xs) sx px zero d high = sx 0 d (omega arith) (omega arith)
      go (x ∷ xs) sx px (suc k) d high = subst (λ (n : ℕ). is_lt (cmp (slice_index_or (x ∷ (xs ++ ys)) n d) (slice_index_or (xs ++ ys) k d)) ≡ false) (next k) (go xs (sorted_behind x xs sx) px.1 k d (omega (arith, high)))

-- ---- lines of imports stand before those of exports

abbrev IsImport : LinkValue → Type 0
IsImport x = x.side ≡ Import

abbrev IsExport : LinkValue → Type 0
IsExport x = x.side ≡ Export

imports_first : (x y : LinkValue) → IsImport x → IsExport y → is_lt (line_cmp y x) ≡ false
imports_first x y i e = rw (i, e) refl

each_import : (ts : List (Bor (List ℕ) × Bor (List ℕ) × Bor (List ℕ))) → Each IsImport (map import_text ts)
each_import [] = tt
each_import (t ∷ ts) = (refl, each_import ts)

each_export : (ts : List (Bor (List ℕ) × Bor (List ℕ))) → Each IsExport (map export_text ts)
each_export [] = tt
each_export (t ∷ ts) = (refl, each_export ts)

pub lines_sorted : (is : List (Bor (List ℕ) × Bor (List ℕ) × Bor (List ℕ))) (es : List (Bor (List ℕ) × Bor (List ℕ))) → IsSorted line_cmp (map import_text is) → IsSorted line_cmp (map export_text es)
    → IsSorted line_cmp (map import_text is ++ map export_text es)
lines_sorted is es i e = sorted_append line_cmp IsImport IsExport imports_first (map import_text is) (map export_text es) i e (each_import is) (each_export es)
