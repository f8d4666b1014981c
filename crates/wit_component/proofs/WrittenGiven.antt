-- What the main module is given under its module texts.
use Rattle.std.proofs.Common.{◌≡◌, ℕ, ◌+◌, ◌<◌, true, false, cond, List, [], ◌∷◌, ◌++◌, length, drop, get_or, map, refl, sym, ap, ◌∙◌, append_assoc, arith, Bor}
use Rattle.std.specs.List.{All}
use Rattle.std.proofs.lemmas.List.{length-map, map-append}
use Rattle.std.proofs.lemmas.List.Elements.{All-from_recursion}
use Rattle.std.specs.Prelude.{string_bytes}
use Rattle.distinct_names.specs.Names.{is_new}
use Rattle.component_value_types.specs.Combinators.{NamedValue}
use Rattle.component_instances.specs.declared.instances.CoreItem.{CoreItem}
use Rattle.known_definitions.specs.Definition.{InlineExportValue, ArgumentValue}
use Rattle.known_definitions.specs.Known.{named_function, named_argument}
use Rattle.plain_worlds.specs.declared.world.Function.{Function}
use Rattle.plain_worlds.specs.World.{function_item}
use Rattle.wit_component.specs.CoreNames.{root, standard}
use Rattle.wit_component.specs.Linking.{Linking}
use Rattle.wit_component.specs.Component.{given_under, instance_with, argument_for, arguments_for}
use Rattle.wit_component.proofs.Written.{items_of, split_map}
use Rattle.wit_component.proofs.WrittenLinks.{given_in, given_from, given_step}

-- ---- one function after the other

module _ (fs : List (Bor Function)) (i : ℕ) (lt : i < length fs) (f : Bor Function) (here : f ≡ get_or fs i f)
    (names : List (List ℕ)) (found total : List (NamedValue CoreItem)) (so_far : found ++ map named_function (given_from names i (items_of (drop i fs))) ≡ total) where
  abbrev rest : List (NamedValue CoreItem)
  rest = map named_function (given_from names (i + 1) (items_of (drop (i + 1) fs)))

  abbrev one : InlineExportValue
  one = record { name = string_bytes f.now.name; func = i }

  given_splits : map named_function (given_from names i (items_of (drop i fs))) ≡ map named_function (given_in names i (function_item f.now)) ++ rest
  given_splits =
      ap (λ gs. map named_function (given_from names i gs)) (split_map fs i lt f here (λ g. function_item g.now)) ∙ ap (map named_function) (given_step names i (i + 1) (function_item f.now) (items_of (drop (i + 1) fs)) refl)
      ∙ map-append named_function (given_in names i (function_item f.now)) (given_from names (i + 1) (items_of (drop (i + 1) fs)))

  pub given_skips : is_new names (string_bytes f.now.name) ≡ true → found ++ rest ≡ total
  given_skips e = ap (λ l. found ++ l) (sym (given_splits ∙ ap (λ b. map named_function (cond b [] (one ∷ [])) ++ rest) e)) ∙ so_far

  pub given_adds : (more : List (NamedValue CoreItem)) → is_new names (string_bytes f.now.name) ≡ false → more ≡ found ++ named_function one ∷ [] → more ++ rest ≡ total
  given_adds more e is =
      ap (λ l. l ++ rest) is ∙ append_assoc found (named_function one ∷ []) rest ∙ ap (λ l. found ++ l) (sym (given_splits ∙ ap (λ b. map named_function (cond b [] (one ∷ [])) ++ rest) e)) ∙ so_far

-- ---- arguments

-- an argument for each instance
pub one_each : (place : List ℕ) (n : ℕ) (xs : List InlineExportValue) → length (argument_for place n xs) ≡ length (instance_with xs)
one_each place n [] = refl
one_each place n (x ∷ xs) = refl

-- what was noted under the two texts
pub arguments_are : (l : Linking) (none first second : List (NamedValue ℕ)) (n m : ℕ) → none ≡ [] → n ≡ length none → m ≡ length first
    → first ≡ none ++ map named_argument (argument_for root n (given_under l root)) → second ≡ first ++ map named_argument (argument_for standard m (given_under l standard)) → second ≡ map named_argument (arguments_for l)
arguments_are l none first second n m empty start count one two =
    let xs = given_under l root in
    let ys = given_under l standard in
    let zero : n ≡ 0 = start ∙ ap length empty in
    let begin : first ≡ map named_argument (argument_for root 0 xs) = one ∙ ap (λ zs. zs ++ map named_argument (argument_for root n xs)) empty ∙ ap (λ k. map named_argument (argument_for root k xs)) zero in
    let behind : m ≡ length (instance_with xs) = count ∙ ap length begin ∙ length-map (argument_for root 0 xs) named_argument ∙ one_each root 0 xs in
    two ∙ ap (λ zs. zs ++ map named_argument (argument_for standard m ys)) begin ∙ ap (λ k. map named_argument (argument_for root 0 xs) ++ map named_argument (argument_for standard k ys)) behind
    ∙ sym (map-append named_argument (argument_for root 0 xs) (argument_for standard (length (instance_with xs)) ys))

-- as many as instances
pub arguments_count : (l : Linking) → length (arguments_for l) ≡ length (instance_with (given_under l root) ++ instance_with (given_under l standard))
arguments_count l = counts (given_under l root) (given_under l standard)
  where
    counts : (xs ys : List InlineExportValue) → length (argument_for root 0 xs ++ argument_for standard (length (instance_with xs)) ys) ≡ length (instance_with xs ++ instance_with ys)
    counts [] [] = refl
    counts [] (y ∷ ys) = refl
    counts (x ∷ xs) [] = refl
    counts (x ∷ xs) (y ∷ ys) = refl

-- each names an instance that stands there
pub arguments_within : (xs ys : List InlineExportValue) → All (λ (a : ArgumentValue). a.instance < length (instance_with xs) + length (instance_with ys)) (argument_for root 0 xs ++ argument_for standard (length (instance_with xs)) ys)
arguments_within [] [] = All-from_recursion (λ (a : ArgumentValue). a.instance < 0) [] tt
arguments_within [] (y ∷ ys) = All-from_recursion (λ (a : ArgumentValue). a.instance < 1) (argument_for standard 0 (y ∷ ys)) (omega arith, tt)
arguments_within (x ∷ xs) [] = All-from_recursion (λ (a : ArgumentValue). a.instance < 1) (argument_for root 0 (x ∷ xs)) (omega arith, tt)
arguments_within (x ∷ xs) (y ∷ ys) = All-from_recursion (λ (a : ArgumentValue). a.instance < 2) (argument_for root 0 (x ∷ xs) ++ argument_for standard 1 (y ∷ ys)) (omega arith, (omega arith, tt))
