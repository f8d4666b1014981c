-- A function that comes with a world takes and gives what it did.
use Rattle.std.proofs.Common.{◌≡◌, ℕ, List, [], ◌++◌, Option, Some, sym, subst, ap, ◌∙◌, map}
use Rattle.std.proofs.lemmas.List.{append-nil}
use Rattle.std.proofs.lemmas.List.Folds.{flat_map-map}
use Rattle.std.specs.Prelude.{slice_get, flat_map, string_bytes}
use Rattle.wit_arena.specs.Passed.wit_types-declared-kind-Type.{«Type» as Ref}
use Rattle.wit_arena.specs.Passed.wit_types-declared-function-Param.{Param}
use Rattle.wit_arena.specs.Passed.wit_order-Order.{Has}
use Rattle.wit_includes.specs.Passed.wit_reach-Ids.{ref_ids, part_ids, signature_ids}
use Rattle.wit_includes.specs.Passed.wit_moves-Moved.{moved_part}
use Rattle.wit_includes.specs.Passed.wit_copies-Copies.{goes}
use Rattle.wit_includes.specs.Included.{copies_behind}
use Rattle.wit_arena.specs.Tree.{Tree}
use Rattle.wit_arena.specs.Unfold.{flat, part_tree, part_trees, trees}
use Rattle.wit_copied_trees.specs.Renamed.{IsRenamedTree, IsRenamedPart, AreRenamedTrees}
use Rattle.wit_copied_trees.specs.Law.{IncludedFunctionsStandForTheSame}
use Rattle.wit_arena.proofs.Passed.wit_order-Lists.{has_was}
use Rattle.wit_includes.proofs.Passed.wit_reach-Lists.{has_append}
use Rattle.wit_copied_trees.proofs.Clones.{param_parts, param_names}
use Rattle.wit_copied_trees.proofs.Renaming.{Gives, part_follows, parts_follow}
use Rattle.wit_copied_trees.proofs.Copying.{follows_where, included_types_stand}

pub included_functions_stand : IncludedFunctionsStandForTheSame
included_functions_stand names owners given from into w v world types own new f g h xs params result b within same moves is =
    let c : ℕ → ℕ = goes (copies_behind types own) in
    let done = trees owners given types in
    let there = trees owners given (types ++ new) in
    let all = included_types_stand names owners given from into w v world types own new b in
    let P : ℕ → Type 0 = λ (j : ℕ). Has (signature_ids f) j in
    let follows : (j : ℕ) (t : Tree) → P j → flat (slice_get done j) ≡ Some t → Gives (IsRenamedTree names w v) t (flat (slice_get there (c j))) =
    λ j t p k. follows_where names owners given from into w v world types own new b own [] new (append-nil own) all.1 j t (within j p) k in
    let param_ids : List ℕ = flat_map (λ (p : Param). ref_ids p.ty) f.params.items in
    let rs : List (Option Ref) = map (λ (p : Param). Some p.ty) f.params.items in
    let of_params : (j : ℕ) → Has (flat_map part_ids rs) j → P j =
    λ j k. has_was param_ids (part_ids f.result) j (subst (λ (is : List ℕ). Has is j) (flat_map-map part_ids (λ (p : Param). Some p.ty) f.params.items) k) in
    let takes : Gives (AreRenamedTrees names w v) params (part_trees there (map (moved_part c) rs)) = parts_follow names w v P c done there follows rs params of_params is.params_are in
    let gives : Gives (IsRenamedPart names w v) result (part_tree there (moved_part c f.result)) =
    part_follows names w v P c done there follows f.result result (λ j k. has_append param_ids (part_ids f.result) j k) is.result_is in (
      takes.0,
      gives.0,
      takes.1,
      gives.1,
      record {
        names_are = subst (λ (ps : List Param). map (λ (p : Param). string_bytes p.name) ps ≡ xs) (sym moves.params) (param_names c f.params.items g.params.items same.params ∙ is.names_are);
        params_are = subst (λ (ps : List Param). part_trees there (map (λ (p : Param). Some p.ty) ps) ≡ Some takes.0) (sym moves.params)
            (ap (part_trees there) (param_parts c f.params.items g.params.items same.params) ∙ takes.2);
        result_is = ap (part_tree there) (moves.result ∙ ap (moved_part c) same.result) ∙ gives.2;
      },
    )
