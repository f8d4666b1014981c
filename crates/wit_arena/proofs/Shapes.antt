-- Two shapes are equal by `==` exactly where they are made of the same.
use Rattle.std.proofs.Common.{◌≡◌, ℕ, Bool, true, false, ap, refl, sym, subst, ◌∙◌, Option, Some, None, ◌&&◌, nat_eq}
use mathlib.Core.Bool.{true≢false}
use Rattle.std.specs.Bool.{Decides}
use Rattle.std.specs.Cmp.{unsigned_Decides}
use Rattle.std.specs.Cmp.Lexicographic.{pointwise_decides}
use Rattle.wit_types.specs.declared.kind.«Type».{«Type» as Ref}
use Rattle.wit_types.specs.declared.kind.«Type».TheVariants as ref
use Rattle.wit_types.specs.declared.kind.Handle.TheVariants as handles
use Rattle.wit_types.specs.contracts.kind.TypePartialEq.TheImpl as type_test
use Rattle.wit_arena.specs.contracts.shape.ShapePartialEq.TheImpl as shape_test
use Rattle.wit_arena.specs.declared.shape.Shape.{Shape}
use Rattle.wit_arena.specs.declared.shape.Shape.TheVariants as shapes
use Rattle.wit_arena.specs.Shape.{handle, tuple, option, result, list, fixed_length_list, future, stream, shape_of, shape_eq}

abbrev type_eq : Ref → Ref → Bool
type_eq = (type_test.ghosts).eq

first_true : (b c : Bool) → (b && c) ≡ true → b ≡ true
first_true true c h = refl
first_true false c h = absurd (true≢false (sym h))

one_type : (a b : Ref) → type_eq a b ≡ true → a ≡ b
one_type ref.Bool ref.Bool h = refl
one_type ref.U8 ref.U8 h = refl
one_type ref.U16 ref.U16 h = refl
one_type ref.U32 ref.U32 h = refl
one_type ref.U64 ref.U64 h = refl
one_type ref.S8 ref.S8 h = refl
one_type ref.S16 ref.S16 h = refl
one_type ref.S32 ref.S32 h = refl
one_type ref.S64 ref.S64 h = refl
one_type ref.F32 ref.F32 h = refl
one_type ref.F64 ref.F64 h = refl
one_type ref.Char ref.Char h = refl
one_type ref.String ref.String h = refl
one_type ref.ErrorContext ref.ErrorContext h = refl
one_type (ref.Id i) (ref.Id j) h = ap ref.Id ((unsigned_Decides i j).0 (first_true (nat_eq i j) true h))
one_type _ _ h = absurd (true≢false (sym h))

itself : (a : Ref) → type_eq a a ≡ true
itself (ref.Id i) = ap (λ (b : Bool). b && true) ((unsigned_Decides i i).1 refl)
itself _ = refl

type_eq-Decides : (a b : Ref) → Decides (type_eq a b) (a ≡ b)
type_eq-Decides a b = (one_type a b, λ e. subst (λ (c : Ref). type_eq a c ≡ true) e (itself a))

second_true : (b c : Bool) → (b && c) ≡ true → c ≡ true
second_true true c h = h
second_true false c h = absurd (true≢false (sym h))

abbrev option_eq : Option Ref → Option Ref → Bool
option_eq a b = (shape_test.ghosts).eq (shapes.Future a) (shapes.Future b)

one_option : (a b : Option Ref) → option_eq a b ≡ true → a ≡ b
one_option None None h = refl
one_option None (Some b) h = absurd (true≢false (sym h))
one_option (Some a) None h = absurd (true≢false (sym h))
one_option (Some a) (Some b) h = ap (λ (t : Ref). Some t) (one_type a b h)

option_itself : (a : Option Ref) → option_eq a a ≡ true
option_itself None = refl
option_itself (Some a) = itself a

one_shape : (x y : Shape) → (shape_test.ghosts).eq x y ≡ true → shape_of x ≡ shape_of y
one_shape (shapes.Handle (handles.Own i)) (shapes.Handle (handles.Own j)) h = ap (λ (k : ℕ). handle (handles.Own k)) ((unsigned_Decides i j).0 (first_true (nat_eq i j) true h))
one_shape (shapes.Handle (handles.Borrow i)) (shapes.Handle (handles.Borrow j)) h = ap (λ (k : ℕ). handle (handles.Borrow k)) ((unsigned_Decides i j).0 (first_true (nat_eq i j) true h))
one_shape (shapes.Tuple a) (shapes.Tuple b) h = ap tuple ((pointwise_decides type_eq-Decides a.items b.items).0 h)
one_shape (shapes.Option a) (shapes.Option b) h = ap option (one_type a b h)
one_shape (shapes.Result a) (shapes.Result b) h =
    let ok = one_option a.ok b.ok (first_true (option_eq a.ok b.ok) (option_eq a.err b.err) h) in
    let err = one_option a.err b.err (second_true (option_eq a.ok b.ok) (option_eq a.err b.err) h) in
    ap (λ (t : Option Ref). result t a.err) ok ∙ ap (λ (t : Option Ref). result b.ok t) err
one_shape (shapes.List a) (shapes.List b) h = ap list (one_type a b h)
one_shape (shapes.FixedLengthList a n) (shapes.FixedLengthList b m) h =
    let part = one_type a b (first_true (type_eq a b) (nat_eq n m) h) in
    let size = (unsigned_Decides n m).0 (second_true (type_eq a b) (nat_eq n m) h) in
    ap (λ (t : Ref). fixed_length_list t n) part ∙ ap (λ (k : ℕ). fixed_length_list b k) size
one_shape (shapes.Future a) (shapes.Future b) h = ap future (one_option a b h)
one_shape (shapes.Stream a) (shapes.Stream b) h = ap stream (one_option a b h)
one_shape _ _ h = absurd (true≢false (sym h))

shape_itself : (x y : Shape) → shape_of x ≡ shape_of y → (shape_test.ghosts).eq x y ≡ true
shape_itself (shapes.Handle (handles.Own i)) (shapes.Handle (handles.Own j)) e = ap (λ (b : Bool). b && true) ((unsigned_Decides i j).1 (cc))
shape_itself (shapes.Handle (handles.Borrow i)) (shapes.Handle (handles.Borrow j)) e = ap (λ (b : Bool). b && true) ((unsigned_Decides i j).1 (cc))
shape_itself (shapes.Tuple a) (shapes.Tuple b) e = (pointwise_decides type_eq-Decides a.items b.items).1 (cc)
shape_itself (shapes.Option a) (shapes.Option b) e = let p : a ≡ b = cc in subst (λ (t : Ref). type_eq a t ≡ true) p (itself a)
shape_itself (shapes.Result a) (shapes.Result b) e =
    let ok : a.ok ≡ b.ok = cc in
    let err : a.err ≡ b.err = cc in
    ap (λ (c : Bool). c && option_eq a.err b.err) (subst (λ (t : Option Ref). option_eq a.ok t ≡ true) ok (option_itself a.ok)) ∙ subst (λ (t : Option Ref). option_eq a.err t ≡ true) err (option_itself a.err)
shape_itself (shapes.List a) (shapes.List b) e = let p : a ≡ b = cc in subst (λ (t : Ref). type_eq a t ≡ true) p (itself a)
shape_itself (shapes.FixedLengthList a n) (shapes.FixedLengthList b m) e =
    let part : a ≡ b = cc in
    let size : n ≡ m = cc in
    ap (λ (c : Bool). c && nat_eq n m) (subst (λ (t : Ref). type_eq a t ≡ true) part (itself a)) ∙ (unsigned_Decides n m).1 size
shape_itself (shapes.Future a) (shapes.Future b) e = let p : a ≡ b = cc in subst (λ (t : Option Ref). option_eq a t ≡ true) p (option_itself a)
shape_itself (shapes.Stream a) (shapes.Stream b) e = let p : a ≡ b = cc in subst (λ (t : Option Ref). option_eq a t ≡ true) p (option_itself a)
shape_itself _ _ e = absurd (cc)

pub shape_eq-Decides : (x y : Shape) → Decides (shape_eq x y) (shape_of x ≡ shape_of y)
unfolding shape_eq
shape_eq-Decides x y = (one_shape x y, shape_itself x y)
