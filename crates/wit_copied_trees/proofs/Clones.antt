-- Clones that are moved are of the same names, and of the types where they are moved.
use Rattle.std.proofs.Common.{◌≡◌, ℕ, List, [], ◌∷◌, Option, Some, refl, ap, map}
use Rattle.std.specs.List.{AllZip}
use Rattle.std.specs.Prelude.{string_bytes}
use Rattle.wit_arena.specs.Passed.wit_types-declared-kind-Type.{«Type» as Ref}
use Rattle.wit_arena.specs.Passed.wit_types-declared-kind-Field.{Field}
use Rattle.wit_arena.specs.Passed.wit_types-declared-kind-Case.{Case}
use Rattle.wit_arena.specs.Passed.wit_types-declared-kind-Flag.{Flag}
use Rattle.wit_arena.specs.Passed.wit_types-declared-kind-EnumCase.{EnumCase}
use Rattle.wit_arena.specs.Passed.wit_types-declared-function-Param.{Param}
use Rattle.wit_includes.specs.Passed.wit_copies-Same.{IsSameField, IsSameCase, IsSameFlag, IsSameEnumCase, IsSameParam}
use Rattle.wit_includes.specs.Passed.wit_moves-Moved.{moved_ref, moved_part, moved_field, moved_case, moved_param}

-- lists whose members are each as the other's, by what is read of them
zip_read : {X Y Z : Type 0} (R : X → Y → Type 0) (a : X → Z) (b : Y → Z) → ((x : X) (y : Y) → R x y → b y ≡ a x) → (xs : List X) (ys : List Y) → AllZip R xs ys → map b ys ≡ map a xs
zip_read R a b each [] [] h = refl
zip_read R a b each (x ∷ xs) (y ∷ ys) h = (let e = each x y h.0 in let es = zip_read R a b each xs ys h.1 in cc)
zip_read _ _ _ _ _ _ h = absurd h

-- where they are moved
zip_moved : {X Y Z : Type 0} (R : X → Y → Type 0) (a : X → Z) (m : Y → Y) (b : Y → Z) → ((x : X) (y : Y) → R x y → b (m y) ≡ a x) → (xs : List X) (ys : List Y) → AllZip R xs ys → map b (map m ys) ≡ map a xs
zip_moved R a m b each [] [] h = refl
zip_moved R a m b each (x ∷ xs) (y ∷ ys) h = (let e = each x y h.0 in let es = zip_moved R a m b each xs ys h.1 in cc)
zip_moved _ _ _ _ _ _ _ h = absurd h

zip_parts : {X Y Z : Type 0} (R : X → Y → Type 0) (a : X → Z) (f : Z → Z) (m : Y → Y) (b : Y → Z) → ((x : X) (y : Y) → R x y → b (m y) ≡ f (a x)) → (xs : List X) (ys : List Y) → AllZip R xs ys → map b (map m ys) ≡ map f (map a xs)
zip_parts R a f m b each [] [] h = refl
zip_parts R a f m b each (x ∷ xs) (y ∷ ys) h = (let e = each x y h.0 in let es = zip_parts R a f m b each xs ys h.1 in cc)
zip_parts _ _ _ _ _ _ _ _ h = absurd h

module _ (f : ℕ → ℕ) where
  pub field_parts : (xs ys : List Field) → AllZip IsSameField xs ys → map (λ (x : Field). Some x.ty) (map (moved_field f) ys) ≡ map (moved_part f) (map (λ (x : Field). Some x.ty) xs)
  field_parts xs ys h = zip_parts IsSameField (λ (x : Field). Some x.ty) (moved_part f) (moved_field f) (λ (x : Field). Some x.ty) (λ x y s. ap (λ (r : Ref). Some (moved_ref f r)) s.ty) xs ys h

  pub field_names : (xs ys : List Field) → AllZip IsSameField xs ys → map (λ (x : Field). string_bytes x.name) (map (moved_field f) ys) ≡ map (λ (x : Field). string_bytes x.name) xs
  field_names xs ys h = zip_moved IsSameField (λ (x : Field). string_bytes x.name) (moved_field f) (λ (x : Field). string_bytes x.name) (λ x y s. s.name) xs ys h

  pub case_parts : (xs ys : List Case) → AllZip IsSameCase xs ys → map (λ (x : Case). x.ty) (map (moved_case f) ys) ≡ map (moved_part f) (map (λ (x : Case). x.ty) xs)
  case_parts xs ys h = zip_parts IsSameCase (λ (x : Case). x.ty) (moved_part f) (moved_case f) (λ (x : Case). x.ty) (λ x y s. ap (moved_part f) s.ty) xs ys h

  pub case_names : (xs ys : List Case) → AllZip IsSameCase xs ys → map (λ (x : Case). string_bytes x.name) (map (moved_case f) ys) ≡ map (λ (x : Case). string_bytes x.name) xs
  case_names xs ys h = zip_moved IsSameCase (λ (x : Case). string_bytes x.name) (moved_case f) (λ (x : Case). string_bytes x.name) (λ x y s. s.name) xs ys h

  pub param_parts : (xs ys : List Param) → AllZip IsSameParam xs ys → map (λ (x : Param). Some x.ty) (map (moved_param f) ys) ≡ map (moved_part f) (map (λ (x : Param). Some x.ty) xs)
  param_parts xs ys h = zip_parts IsSameParam (λ (x : Param). Some x.ty) (moved_part f) (moved_param f) (λ (x : Param). Some x.ty) (λ x y s. ap (λ (r : Ref). Some (moved_ref f r)) s.ty) xs ys h

  pub param_names : (xs ys : List Param) → AllZip IsSameParam xs ys → map (λ (x : Param). string_bytes x.name) (map (moved_param f) ys) ≡ map (λ (x : Param). string_bytes x.name) xs
  param_names xs ys h = zip_moved IsSameParam (λ (x : Param). string_bytes x.name) (moved_param f) (λ (x : Param). string_bytes x.name) (λ x y s. s.name) xs ys h

  pub type_parts : (xs : List Ref) → map (λ (x : Ref). Some x) (map (moved_ref f) xs) ≡ map (moved_part f) (map (λ (x : Ref). Some x) xs)
  type_parts [] = refl
  type_parts (x ∷ xs) = ap (λ (rs : List (Option Ref)). Some (moved_ref f x) ∷ rs) (type_parts xs)

pub flag_names : (xs ys : List Flag) → AllZip IsSameFlag xs ys → map (λ (x : Flag). string_bytes x.name) ys ≡ map (λ (x : Flag). string_bytes x.name) xs
flag_names xs ys h = zip_read IsSameFlag (λ (x : Flag). string_bytes x.name) (λ (x : Flag). string_bytes x.name) (λ x y s. s.name) xs ys h

pub enum_names : (xs ys : List EnumCase) → AllZip IsSameEnumCase xs ys → map (λ (x : EnumCase). string_bytes x.name) ys ≡ map (λ (x : EnumCase). string_bytes x.name) xs
enum_names xs ys h = zip_read IsSameEnumCase (λ (x : EnumCase). string_bytes x.name) (λ (x : EnumCase). string_bytes x.name) (λ x y s. s.name) xs ys h
