-- Files of which one more is parted.
use Rattle.std.proofs.Common.{◌≡◌, ℕ, ◌+◌, ◌<◌, List, [], ◌∷◌, ◌++◌, map, take, length, get_or, add-one, refl, sym, ap, ◌∙◌}
use Rattle.std.proofs.Math.Seq.{take-suc}
use Rattle.std.proofs.lemmas.List.{map_push}
use Rattle.wit_scopes.specs.Passed.wit_syntax-Ast.{FileTree}
use Rattle.wit_scopes.specs.Passed.wit_syntax-declared-ast-File.{File}
use Rattle.wit_scopes.specs.Passed.wit_syntax-AstView as view
use Rattle.wit_scopes.proofs.Lists.{flat_map-push}
use Rattle.wit_nested.specs.declared.nested.PartedFiles.{PartedFiles}
use Rattle.wit_nested.specs.Nested.{own_file, own_files, nested_in, nested_files}
use Rattle.wit_nested.specs.View.{AreParted}

-- one more file goes behind the own ones, and its nested packages behind the others
pub parted_more : (xs : List File) (i : ℕ) (x : File) → i < length xs → x ≡ get_or xs i x → (a b : PartedFiles) → AreParted (map view.file (take i xs)) a
    → map view.file b.own.items ≡ map view.file a.own.items ++ own_file (view.file x) ∷ [] → map view.file b.nested.items ≡ map view.file a.nested.items ++ nested_in (view.file x)
    → AreParted (map view.file (take (i + 1) xs)) b
parted_more xs i x within is a b so_far own nested =
    let before : List FileTree = map view.file (take i xs) in
    let more : map view.file (take (i + 1) xs) ≡ before ++ view.file x ∷ [] = rw (add-one, take-suc xs i x within, ← is, map_push view.file (take i xs) x) refl in
    record {
      own_are = own ∙ ap (λ (fs : List FileTree). fs ++ own_file (view.file x) ∷ []) so_far.own_are ∙ sym (map_push own_file before (view.file x)) ∙ ap own_files (sym more);
      nested_are = nested ∙ ap (λ (fs : List FileTree). fs ++ nested_in (view.file x)) so_far.nested_are ∙ sym (flat_map-push nested_in before (view.file x)) ∙ ap nested_files (sym more);
    }
