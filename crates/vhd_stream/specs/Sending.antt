-- What a call did that was to send a text, which it reads of a store, to a sink.
use Rattle.std.specs.Prelude.{◌≡◌, ℕ, ◌≤◌, ⊤, List, [], Option, Result, Ok, Err, OnOk, OnErr}
use Rattle.sm_disk.specs.Held.{Rose}
use Rattle.sm_disk.specs.Streams.{Adds, AddsFront}
use Rattle.vhd_stream.specs.declared.exporting.ExportFault.{ExportFault}
use Rattle.vhd_stream.specs.declared.exporting.ExportFault.TheVariants.{Device, NoMemory, Sink}

-- what a sink held before and holds now, and how many calls of the sink and of the store had failed before and have now
pub record SendSides : Type 0 where
  pub had : Option (List ℕ)
  pub got : Option (List ℕ)
  pub sink : ℕ
  pub sink_now : ℕ
  pub device : ℕ
  pub device_now : ℕ

-- the sides of a call: what tells the content of a sink, how many of its calls failed, and how many of a store's; then the sink and the
-- store, each before and after
abbrev pub send_sides : {S K : Type 0} → (K → Option (List ℕ)) → (K → ℕ) → (S → ℕ) → K → K → S → S → SendSides
send_sides content faults store_faults sink sink' store store' = record {
  had = content sink;
  got = content sink';
  sink = faults sink;
  sink_now = faults sink';
  device = store_faults store;
  device_now = store_faults store';
}

-- the sides of a call that makes no call of the store
abbrev pub sink_sides : {K : Type 0} → (K → Option (List ℕ)) → (K → ℕ) → K → K → ℕ → SendSides
sink_sides content faults sink sink' device = record {
  had = content sink;
  got = content sink';
  sink = faults sink;
  sink_now = faults sink';
  device = device;
  device_now = device;
}

-- a part fails by the store only where a call of the store failed, and by the sink only where one of the sink did; it takes no memory
abbrev pub IsCaused : SendSides → Result ⊤ ExportFault → Type 0
IsCaused s (Ok _) = (s.sink_now ≡ s.sink) × (s.device_now ≡ s.device)
IsCaused s (Err Device) = (s.sink_now ≡ s.sink) × Rose s.device s.device_now
IsCaused s (Err Sink) = Rose s.sink s.sink_now × (s.device_now ≡ s.device)
IsCaused s (Err NoMemory) = ⊥

-- The whole text went to the sink and no call failed, or one did, and a front of the text went there. What was sent is said where
-- the store tells its content.
pub record Sends (told : Type 0) (text : List ℕ) (s : SendSides) (result : Result ⊤ ExportFault) : Type 0 where
  pub adds : told → OnOk result (Adds s.had text s.got)
  pub front : told → OnErr result (AddsFront s.had text s.got)
  pub cause : IsCaused s result
  pub counts : s.sink ≤ s.sink_now

-- what an export sent of a file: all of it; nothing where memory was wanting; a front of it where a call failed
abbrev pub HasSent : List ℕ → Option (List ℕ) → Option (List ℕ) → Result ⊤ ExportFault → Type 0
HasSent bytes had got (Ok _) = Adds had bytes got
HasSent bytes had got (Err NoMemory) = Adds had [] got
HasSent bytes had got (Err Device) = AddsFront had bytes got
HasSent bytes had got (Err Sink) = AddsFront had bytes got
