use Rattle.std.proofs.Common.{◌≡◌, ℕ, length, List, map, take, sym, ◌∙◌, subst}
use Rattle.std.proofs.Math.Seq.{take-length}
use Rattle.std.proofs.lemmas.List.{length_push}
use Rattle.std.proofs.lemmas.Iterator.Adapters.{YieldsList-from_vec}
use Rattle.std.proofs.lemmas.Iterator.Consumers.{YieldsList-turn, YieldsList-end}
use Rattle.wit_scopes.specs.Passed.wit_syntax-declared-ast-File.{File}
use Rattle.wit_scopes.specs.Passed.wit_syntax-AstView as view
use Rattle.wit_nested.specs.View.{AreParted}
use Rattle.wit_nested.proofs.Parting.{parted_more}
use Rattle.wit_nested.proofs.nested.add_files.Goals as goal

pub loop-file-preserved : goal.loop-file-preserved
loop-file-preserved c =
    let files = c.args.files.items in
    let yields = YieldsList-from_vec {s = c.into_iter-file-iterator.result} files c.into_iter-file-iterator.ensures.into_iter_gives.0 (c.into_iter-file-iterator.ensures.into_iter_gives.1 ∙ c.args.files.ok.0) in
    let turn = YieldsList-turn yields c.loop-file.yielded c.loop-file.file-iterator c.loop-file.yielded_by c.next.result c.next.new.self c.in-Some.file c.in-Some.is c.next.ensures.steps in
    subst (λ (m : ℕ). AreParted (map view.file (take m files)) c.add_file.new.parted) (sym (length_push c.loop-file.yielded c.in-Some.file))
    (parted_more files (length c.loop-file.yielded) c.in-Some.file turn.0 turn.1 c.loop-file.parted c.add_file.new.parted c.loop-file.invariant c.in_ok-add_file.ensures.own c.in_ok-add_file.ensures.nested)

pub returns : goal.returns
returns c =
    let files = c.args.files.items in
    let yields = YieldsList-from_vec {s = c.into_iter-file-iterator.result} files c.into_iter-file-iterator.ensures.into_iter_gives.0 (c.into_iter-file-iterator.ensures.into_iter_gives.1 ∙ c.args.files.ok.0) in
    let over = YieldsList-end yields c.loop-file.yielded c.loop-file.file-iterator c.loop-file.yielded_by c.next.result c.next.new.self c.in-None.is c.next.ensures.steps in
    let all : take (length c.loop-file.yielded) files ≡ files = rw over.1 (take-length files) in
    subst (λ (fs : List File). AreParted (map view.file fs) c.loop-file.parted) all c.loop-file.invariant
