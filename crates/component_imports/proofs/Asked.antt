-- What is asked for, function by function and interface by interface.
use Rattle.std.proofs.Common.{◌≡◌, ℕ, ◌+◌, ◌<◌, List, [], ◌∷◌, ◌++◌, length, take, get_or, sym, ap, ◌∙◌, append_assoc}
use Rattle.std.specs.Prelude.{flat_map, Vec}
use Rattle.std.specs.Borrow.{Bor}
use Rattle.std.specs.declared.alloc.Global.{Global}
use Rattle.std.proofs.lemmas.List.{append-nil, map-append}
use Rattle.std.proofs.lemmas.Grind.{flat_map-append}
use Rattle.wit_types.specs.declared.function.Function.{Function}
use Rattle.wit_reach.specs.Ids.{function_ids}
use Rattle.type_sinks.proofs.Passed.type_writing-Standing.{taken_next}
use Rattle.component_imports.specs.Functions.{functions_of}
use Rattle.component_imports.specs.Interfaces.{ids_of, linked_of, asked}
use Rattle.component_imports.proofs.Exported.{functions_next}

-- one more behind what comes of the others
flat_next : {X Y : Type 0} (f : X → List Y) (xs : List X) (x : X) (all : List X) → xs ++ x ∷ [] ≡ all → flat_map f xs ++ f x ≡ flat_map f all
flat_next f xs x all e = sym (flat_map-append f xs (x ∷ []) ∙ ap (λ l. flat_map f xs ++ l) (append-nil (f x))) ∙ ap (flat_map f) e

pub ids_next : (start old new : List ℕ) (fs : List (Bor Function)) (i : ℕ) (f : Bor Function) → i < length fs → f ≡ get_or fs i f
    → old ≡ start ++ ids_of (functions_of (take i fs)) → new ≡ old ++ function_ids f.now → new ≡ start ++ ids_of (functions_of (take (i + 1) fs))
ids_next start old new fs i f lt here before one =
    one ∙ ap (λ l. l ++ function_ids f.now) before ∙ append_assoc start (ids_of (functions_of (take i fs))) (function_ids f.now)
    ∙ ap (λ l. start ++ l) (flat_next function_ids (functions_of (take i fs)) f.now (functions_of (take (i + 1) fs)) (functions_next fs i f lt here))

pub linked_next : (vs : List (Vec (Bor Function) Global)) (i : ℕ) (v : Vec (Bor Function) Global) → i < length vs → v ≡ get_or vs i v → linked_of (take i vs) ++ functions_of v.items ∷ [] ≡ linked_of (take (i + 1) vs)
linked_next vs i v lt here = sym (map-append (λ (w : Vec (Bor Function) Global). functions_of w.items) (take i vs) (v ∷ [])) ∙ ap linked_of (taken_next vs i v lt here)

pub asked_next : (others old new : List ℕ) (vs : List (Vec (Bor Function) Global)) (i : ℕ) (v : Vec (Bor Function) Global) → i < length vs → v ≡ get_or vs i v → (gs : List (Bor Function)) → gs ≡ v.items
    → old ≡ asked others (linked_of (take i vs)) → new ≡ old ++ ids_of (functions_of gs) → new ≡ asked others (linked_of (take (i + 1) vs))
asked_next others old new vs i v lt here gs same before one =
    one ∙ ap (λ l. old ++ ids_of (functions_of l)) same ∙ ap (λ l. l ++ ids_of (functions_of v.items)) before ∙ append_assoc others (flat_map ids_of (linked_of (take i vs))) (ids_of (functions_of v.items))
    ∙ ap (λ l. others ++ l) (flat_next ids_of (linked_of (take i vs)) (functions_of v.items) (linked_of (take (i + 1) vs)) (linked_next vs i v lt here))
