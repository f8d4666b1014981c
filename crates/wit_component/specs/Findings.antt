-- The numbers and names of findings, which are part of what the program prints.
use Rattle.std.specs.Prelude.{ℕ, List, codes}
use Rattle.wit_component.specs.declared.finding.FindingKind.{FindingKind}
use Rattle.wit_component.specs.declared.finding.FindingKind.TheVariants as findings

abbrev pub finding_number : FindingKind → ℕ
finding_number findings.Format = 1
finding_number findings.Import = 2
finding_number findings.Export = 3
finding_number findings.Module = 4
finding_number findings.Link = 5
finding_number findings.Fill = 6
finding_number findings.SlotReach = 7
finding_number findings.Name = 8

abbrev pub finding_name : FindingKind → List ℕ
finding_name findings.Format = codes "Format"
finding_name findings.Import = codes "Import"
finding_name findings.Export = codes "Export"
finding_name findings.Module = codes "Module"
finding_name findings.Link = codes "Link"
finding_name findings.Fill = codes "Fill"
finding_name findings.SlotReach = codes "SlotReach"
finding_name findings.Name = codes "Name"
