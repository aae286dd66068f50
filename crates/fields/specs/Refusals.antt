-- The numbers by which refusals are known, and how they are written.
use Rattle.std.specs.Prelude.{ℕ, List, ◌++◌, codes}
use Rattle.std.specs.Fmt.{decimal}
use Rattle.fields.specs.declared.refusal.Part.{Part}
use Rattle.fields.specs.declared.refusal.Part.TheVariants as part
use Rattle.fields.specs.declared.refusal.Reason.{Reason}
use Rattle.fields.specs.declared.refusal.Reason.TheVariants as reason
use Rattle.fields.specs.declared.refusal.Refusal.{Refusal}

abbrev pub reason_number : Reason → ℕ
reason_number reason.InterfaceName = 1
reason_number reason.Truncated = 2
reason_number reason.Version = 3
reason_number reason.HeaderLength = 4
reason_number reason.TotalLength = 5
reason_number reason.Checksum = 6
reason_number reason.Payload = 7
reason_number reason.PacketLimit = 8
reason_number reason.Position = 9
reason_number reason.ListFull = 10
reason_number reason.Condition = 11
reason_number reason.IdentifierLimit = 12
reason_number reason.ForeignTicket = 13

abbrev pub part_text : Part → List ℕ
part_text part.Columns = codes "columns"
part_text part.Reader = codes "reader"
part_text part.Filter = codes "filter"

abbrev pub refusal_text : Refusal → List ℕ
refusal_text r =
    codes "refusal " ++ decimal (reason_number r.reason) ++ codes ", part " ++ part_text r.part ++ codes ", place " ++ decimal r.place
