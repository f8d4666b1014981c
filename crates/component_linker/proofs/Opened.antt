-- A session with the features of a line.
use Rattle.std.proofs.Common.{◌≡◌, ◌∙◌, ◌<◌, ◌+◌, ◌≤◌, ℕ, List, [], ◌∷◌, ◌++◌, length, take, map, get_or, String, Global, string_bytes, refl, sym, ap}
use Rattle.std.specs.Prelude.{fold}
use Rattle.std.proofs.lemmas.List.{map-append, take_more, take_all}
use Rattle.wit_features.specs.Features.{with_name}
use Rattle.command_line.specs.declared.line.Line.{Line}
use Rattle.component_session.specs.Input.{Input}
use Rattle.component_linker.specs.Program.{features_of}

-- the names of features, each once
abbrev pub named : List (String Global) → List (List ℕ)
named fs = fold with_name [] (map string_bytes fs)

fold_last : {A B : Type 0} (f : B → A → B) (b : B) (xs : List A) (x : A) → fold f b (xs ++ x ∷ []) ≡ f (fold f b xs) x
fold_last f b [] x = refl
fold_last f b (y ∷ xs) x = fold_last f (f b y) xs x

more : (fs : List (String Global)) (k : ℕ) (x : String Global) → k < length fs → x ≡ get_or fs k x → named (take (k + 1) fs) ≡ with_name (named (take k fs)) (string_bytes x)
more fs k x lt at =
    ap named (take_more fs k x lt ∙ ap (λ y. take k fs ++ y ∷ []) (sym at)) ∙ ap (fold with_name []) (map-append string_bytes (take k fs) (x ∷ []))
    ∙ fold_last with_name [] (map string_bytes (take k fs)) (string_bytes x)

abbrev pub with_names : Input → List (List ℕ) → Input
with_names i names = record i { resolved = record i.resolved { features = record i.resolved.features { names = names } } }

-- one feature more is active
pub one_more : (first old new : Input) (fs : List (String Global)) (k : ℕ) (x : String Global) → k < length fs → x ≡ get_or fs k x
    → old ≡ with_names first (named (take k fs)) → new ≡ with_names old (with_name old.resolved.features.names (string_bytes x)) → new ≡ with_names first (named (take (k + 1) fs))
one_more first old new fs k x lt at before is =
    is ∙ ap (λ (i : Input). with_names i (with_name i.resolved.features.names (string_bytes x))) before ∙ ap (with_names first) (sym (more fs k x lt at))

-- all are
pub all_named : (first old new : Input) (l : Line) (k : ℕ) → length l.features.items ≤ k → old ≡ with_names first (named (take k l.features.items))
    → new ≡ record old { resolved = record old.resolved { features = record old.resolved.features { all = l.all_features } } } → new ≡ record first { resolved = record first.resolved { features = features_of l } }
all_named first old new l k past before is =
    is ∙ ap (λ (i : Input). record i { resolved = record i.resolved { features = record i.resolved.features { all = l.all_features } } }) (before ∙ ap (with_names first) (ap named (take_all k l.features.items past)))
