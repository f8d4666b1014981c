use Rattle.std.proofs.lemmas.Result.{IfOk-weaker, IfErr-weaker}
use Rattle.component_imports.specs.Functions.{functions_of}
use Rattle.component_imports.proofs.Imported.{imported_beside, put_beside, beside_unready}
use Rattle.component_imports.proofs.interface.import_interface_as.Goals as goal

pub returns : goal.returns
returns c =
    let root = c.args.root in
    let interface = c.args.interface in
    let name = c.args.name.now in
    let types = c.args.types.now in
    let ids = c.args.ids.now in
    let fs = functions_of c.args.functions.now in
    let t = c.in_ok-instance.instance in
    let filled = c.in_ok-instance.ensures.ok in
    let p = c.import_as.ensures in
    record {
      ok = IfOk-weaker c.import_as.result _ _ (λ r h. imported_beside root t r types interface name ids fs filled h) (put_beside c.import_as.result t name types p.imported p.good filled.good p.begins p.same p.names p.items p.functions p.types);
      placed = IfOk-weaker c.import_as.result _ _ (λ r h labels parameters p. h (c.in_ok-instance.ensures.placed labels parameters p)) p.placed;
      cause = IfErr-weaker c.import_as.result _ _ (λ e h. beside_unready _ root t name interface e filled.setting h) p.cause;
    }
