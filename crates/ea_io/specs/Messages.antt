-- The message about a source that was not read to its end.
use Rattle.std.specs.Prelude.{ℕ, List, codes}
use Rattle.ea_io.specs.declared.reading.ReadAllFault.{ReadAllFault}
use Rattle.ea_io.specs.declared.reading.ReadAllFault.TheVariants.{ReadFault, TooLong, OutOfMemory}

abbrev pub message_of : ReadAllFault → List ℕ
message_of ReadFault = codes "read failed"
message_of TooLong = codes "input too long"
message_of OutOfMemory = codes "out of memory"
