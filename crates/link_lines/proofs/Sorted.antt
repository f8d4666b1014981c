-- The order of lines is one, and a list is in order where a view of it is that keeps the order.
use Rattle.std.proofs.Common.{ℕ, zero, suc, ◌+◌, ◌<◌, List, [], ◌∷◌, map, length, slice_index_or, ◌≡◌, refl, ap, arith}
use Rattle.std.specs.Prelude.{IsSorted}
use Rattle.std.specs.Cmp.{IsTotalOrder}
use Rattle.std.specs.Cmp.Lexicographic.{options_total}
use Rattle.std.specs.declared.cmp.Ordering.{Ordering}
use Rattle.std.proofs.lemmas.Cmp.{nat_cmp_total, nat_list_cmp_total, on_total, then_total}
use Rattle.link_lines.specs.Line.{LinkValue}
use Rattle.link_lines.specs.Order.{side_place, text_cmp, line_cmp}

pub text_cmp_total : IsTotalOrder text_cmp
text_cmp_total = options_total nat_list_cmp_total

pub line_cmp_total : IsTotalOrder line_cmp
line_cmp_total =
    then_total (on_total (λ (l : LinkValue). side_place l.side) nat_cmp_total)
    (then_total (then_total (on_total (λ (l : LinkValue). l.«module») text_cmp_total) (on_total (λ (l : LinkValue). l.name) text_cmp_total)) (on_total (λ (l : LinkValue). l.item) text_cmp_total))

-- ---- a list in order, seen by a view that keeps the order

pub length_once : {X Y : Type 0} (f : X → Y) (xs : List X) → length (map f xs) ≡ length xs
length_once f [] = refl
length_once f (x ∷ xs) = ap suc (length_once f xs)

mapped_at : {X Y : Type 0} (f : X → Y) (xs : List X) (k : ℕ) (d : Y) (x : X) → k < length xs → slice_index_or (map f xs) k d ≡ f (slice_index_or xs k x)
mapped_at f [] k d x l = absurd (omega arith)
mapped_at f (y ∷ ys) zero d x l = refl
mapped_at f (y ∷ ys) (suc k) d x l = mapped_at f ys k d x (omega arith)

pub sorted_map : {X Y : Type 0} (f : X → Y) (cmp : Y → Y → Ordering) (xs : List X) → IsSorted (λ a b. cmp (f a) (f b)) xs → IsSorted cmp (map f xs)
sorted_map f cmp [] h = λ k d low high. absurd (omega arith)
sorted_map f cmp (x ∷ xs) h = λ k d low high.
    let more : k + 1 < length (x ∷ xs) = omega (arith, length_once f (x ∷ xs)) in
    rw (mapped_at f (x ∷ xs) (k + 1) d x more, mapped_at f (x ∷ xs) k d x (omega arith)) (h k x low more)
