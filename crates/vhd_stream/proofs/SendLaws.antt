-- A text that is sent part by part.
use Rattle.std.proofs.Common.{◌≡◌, ℕ, ◌+◌, ◌≤◌, List, [], ◌++◌, length, length-append, take, Option, Result, Ok, Err, OnOk, OnErr, refl, sym, subst, ◌∙◌, arith}
use Rattle.std.specs.Prelude.{⊤}
use Rattle.std.proofs.Math.Seq.{take-append-add}
use Rattle.std.proofs.lemmas.List.{take-append-le}
use Rattle.sm_disk.specs.Held.{Rose}
use Rattle.sm_disk.specs.Streams.{Adds, AddsFront}
use Rattle.sm_disk.proofs.StreamLaws.{Adds-none, Adds-then}
use Rattle.vhd_stream.specs.declared.exporting.ExportFault.{ExportFault}
use Rattle.vhd_stream.specs.declared.exporting.ExportFault.TheVariants.{Device, NoMemory, Sink}
use Rattle.vhd_stream.specs.Sending.{SendSides, Sends}

pub front-more : (had got : Option (List ℕ)) (text rest : List ℕ) → AddsFront had text got → AddsFront had (text ++ rest) got
front-more had got text rest front =
    let n = front.0 in
    let within : n ≤ length (text ++ rest) = omega (arith, length-append text rest, front.1) in
    let P : List ℕ → Type 0 = λ t. Adds had t got in
    (n, within, subst P (sym (take-append-le n text rest front.1)) front.2)

pub front-after : (had mid got : Option (List ℕ)) (first second : List ℕ) → Adds had first mid → AddsFront mid second got → AddsFront had (first ++ second) got
front-after had mid got first second added front =
    let n = front.0 in
    let within : length first + n ≤ length (first ++ second) = omega (arith, length-append first second, front.1) in
    let P : List ℕ → Type 0 = λ t. Adds had t got in
    (length first + n, within, subst P (sym (take-append-add first second n)) (Adds-then had mid got first (take n second) added front.2))

pub front-none : (had : Option (List ℕ)) (text : List ℕ) → AddsFront had text had
front-none had text = (0, let h : 0 ≤ length text = omega arith in h, Adds-none had)

-- the sides of a call, with those of what went before it
abbrev pub from-sides : Option (List ℕ) → ℕ → ℕ → SendSides → SendSides
from-sides had sink device s = record { had = had; got = s.got; sink = sink; sink_now = s.sink_now; device = device; device_now = s.device_now }

-- one text went out whole, and then another was to be sent
pub Sends-after : {told : Type 0} {r : Result ⊤ ExportFault} (first second : List ℕ) (had : Option (List ℕ)) (sink device : ℕ) (s : SendSides)
    → (told → Adds had first s.had) → s.sink ≡ sink → s.device ≡ device → Sends told second s r → Sends told (first ++ second) (from-sides had sink device s) r
Sends-after {told} {r = Ok u} first second had sink device s added calm quiet b = record {
  adds = λ t. Adds-then had s.had s.got first second (added t) (b.adds t);
  front = λ t. tt;
  cause = (b.cause.0 ∙ calm, b.cause.1 ∙ quiet);
  counts = omega (arith, calm, b.counts);
}
Sends-after {told} {r = Err Device} first second had sink device s added calm quiet b = record {
  adds = λ t. tt;
  front = λ t. front-after had s.had s.got first second (added t) (b.front t);
  cause = (b.cause.0 ∙ calm, omega (arith, quiet, b.cause.1));
  counts = omega (arith, calm, b.counts);
}
Sends-after {told} {r = Err Sink} first second had sink device s added calm quiet b = record {
  adds = λ t. tt;
  front = λ t. front-after had s.had s.got first second (added t) (b.front t);
  cause = (omega (arith, calm, b.cause.0), b.cause.1 ∙ quiet);
  counts = omega (arith, calm, b.counts);
}
Sends-after {told} {r = Err NoMemory} first second had sink device s added calm quiet b = absurd b.cause

-- the first text of two was cut short
pub Sends-cut : {told : Type 0} {e : ExportFault} (first second : List ℕ) (s : SendSides) → Sends told first s (Err e) → Sends told (first ++ second) s (Err e)
Sends-cut {told} {e} first second s b = record {
  adds = λ t. tt;
  front = λ t. front-more s.had s.got first second (b.front t);
  cause = b.cause;
  counts = b.counts;
}

pub Sends-same : {told : Type 0} {r : Result ⊤ ExportFault} (text other : List ℕ) (s : SendSides) → text ≡ other → Sends told text s r → Sends told other s r
Sends-same {told} {r} text other s e b = let P : List ℕ → Type 0 = λ t. Sends told t s r in subst P e b

-- what is so whatever is told
pub Sends-told : {told : Type 0} {r : Result ⊤ ExportFault} (text : List ℕ) (s : SendSides) → Sends ⊤ text s r → Sends told text s r
Sends-told {told} {r} text s b = record { adds = λ t. b.adds tt; front = λ t. b.front tt; cause = b.cause; counts = b.counts }

-- what is so of a text that is another's where the store tells its content
pub Sends-as : {told : Type 0} {r : Result ⊤ ExportFault} (text other : List ℕ) (s : SendSides) → (told → text ≡ other) → Sends told text s r → Sends told other s r
Sends-as {told} {r} text other s e b = record {
  adds = λ t. let P : List ℕ → Type 0 = λ l. OnOk r (Adds s.had l s.got) in subst P (e t) (b.adds t);
  front = λ t. let P : List ℕ → Type 0 = λ l. OnErr r (AddsFront s.had l s.got) in subst P (e t) (b.front t);
  cause = b.cause;
  counts = b.counts;
}

-- nothing was to be sent
pub Sends-none : {told : Type 0} (u : ⊤) (had : Option (List ℕ)) (sink device : ℕ) → Sends told [] (record { had = had; got = had; sink = sink; sink_now = sink; device = device; device_now = device }) (Ok u)
Sends-none {told} u had sink device = record { adds = λ t. Adds-none had; front = λ t. tt; cause = (refl, refl); counts = omega arith }

-- the store failed, and nothing was sent
pub Sends-stopped : {told : Type 0} (text : List ℕ) (had : Option (List ℕ)) (sink device device_now : ℕ) → Rose device device_now
    → Sends told text (record { had = had; got = had; sink = sink; sink_now = sink; device = device; device_now = device_now }) (Err Device)
Sends-stopped {told} text had sink device device_now rose = record { adds = λ t. tt; front = λ t. front-none had text; cause = (refl, rose); counts = omega arith }

-- bytes were sent behind a call of the store that did not fail
pub Sends-quiet : {told : Type 0} {r : Result ⊤ ExportFault} (text : List ℕ) (had got : Option (List ℕ)) (sink sink_now device device_now : ℕ) → device_now ≡ device
    → Sends told text (record { had = had; got = got; sink = sink; sink_now = sink_now; device = device; device_now = device }) r
    → Sends told text (record { had = had; got = got; sink = sink; sink_now = sink_now; device = device; device_now = device_now }) r
Sends-quiet {told} {r} text had got sink sink_now device device_now e b =
    let P : ℕ → Type 0 = λ d. Sends told text (record { had = had; got = got; sink = sink; sink_now = sink_now; device = device; device_now = d }) r in
    subst P (sym e) b

-- the sink failed at a text
pub Sends-sink : {told : Type 0} (text : List ℕ) (had got : Option (List ℕ)) (sink sink_now device : ℕ) → AddsFront had text got → Rose sink sink_now → sink ≤ sink_now
    → Sends told text (record { had = had; got = got; sink = sink; sink_now = sink_now; device = device; device_now = device }) (Err Sink)
Sends-sink {told} text had got sink sink_now device front rose counts = record { adds = λ t. tt; front = λ t. front; cause = (rose, refl); counts = counts }
