use Rattle.std.proofs.lemmas.Result.{IfOk-weaker, IfErr-weaker}
use Rattle.component_imports.specs.Functions.{functions_of}
use Rattle.component_imports.proofs.Imported.{all_imported, put_of, put_unready}
use Rattle.component_imports.proofs.interface.import_interface.Goals as goal

pub returns : goal.returns
returns c =
    let root = c.args.root in
    let interface = c.args.interface in
    let types = c.args.types.now in
    let ids = c.args.ids.now in
    let fs = functions_of c.args.functions.now in
    let t = c.in_ok-instance.instance in
    let filled = c.in_ok-instance.ensures.ok in
    let p = c.import.ensures in
    record {
      ok = IfOk-weaker c.import.result _ _ (λ r h. all_imported root t r types interface ids fs filled h) (put_of c.import.result t types p.good filled.good p.homes p.others p.only p.interfaces p.known p.begins p.same p.names p.items p.functions);
      placed = IfOk-weaker c.import.result _ _ (λ r h labels parameters p. h (c.in_ok-instance.ensures.placed labels parameters p)) p.placed;
      cause = IfErr-weaker c.import.result _ _ (λ e h. put_unready _ root t interface e filled.setting h) p.cause;
    }
