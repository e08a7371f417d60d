-- Where the room for the bytes of a line is (this project's way of reading lines).
use Rattle.std.specs.Prelude.{⊤, ℕ, List, Option, Some, None}
use Rattle.sm_machine.specs.declared.commands.Command.{Command}
use Rattle.sm_machine.specs.declared.commands.Command.TheVariants.{Write}

-- the command has the bytes of a line
abbrev pub HasBytes : Option Command → Type 0
HasBytes (Some (Write u sector bytes)) = ⊤
HasBytes _ = ⊥

-- the room for the bytes of a line is beside the command, or in it
abbrev pub HasRoom : Option (List ℕ) → Option Command → Type 0
HasRoom (Some room) command = ⊤
HasRoom None command = HasBytes command
