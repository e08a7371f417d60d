-- A dynamic file of which the header was read.
use Rattle.std.proofs.Common.{◌≡◌, ℕ, ◌+◌, true, false, List, [], ◌∷◌, ◌++◌, length, Option, Some, None, refl, sym, ap, ◌∙◌, arith, subst, append_assoc}
use Rattle.std.specs.List.{cons_option}
use Rattle.std.proofs.Math.ListN.{get_or-append}
use Rattle.std.proofs.lemmas.List.{get_or-append-add}
use Rattle.sm_base.specs.declared.refusals.Refusal.{Refusal}
use Rattle.sm_base.specs.declared.refusals.Refusal.TheVariants.{BadSize}
use Rattle.sm_disk.specs.Streams.{Takes}
use Rattle.vhd_stream.specs.Files.{File, sector_at}
use Rattle.vhd_import.specs.declared.faults.ImportFault.TheVariants as fault
use Rattle.vhd_import.specs.declared.heads.Beginning.TheVariants.{Dynamic}
use Rattle.vhd_import.specs.declared.heads.FileNumbers.{FileNumbers}
use Rattle.vhd_import.specs.Beginnings.{BeginsSo, layout_by}
use Rattle.vhd_import.specs.declared.tables.Entry.{Entry}
use Rattle.vhd_import.specs.Blocks.{IsBeforeBlocks, IsKnown}
use Rattle.vhd_import.specs.Dynamics.{HasBegun, HasHeader, HasPlaces, IsBeforeTable}
use Rattle.vhd_import.specs.Heads.{is_dynamic, layout_at, size_at}
use Rattle.vhd_import.specs.Making.{begin_lacks}
use Rattle.vhd_import.specs.Progress.{FaultSays, HasRead, IsOpen, IsOpenUntil, IsQuiet}
use Rattle.vhd_import.specs.Puts.{Put, put_at}
use Rattle.vhd_import.specs.Room.{Target, is_too_large}
use Rattle.vhd_import.specs.Verdicts.{denial_at}
use Rattle.vhd_import.proofs.DynamicLaws.{begin-denial, dynamic-more, early-none, known-more, large-begin, open-early, open-table, quiet-table, second-denial, third-denial}
use Rattle.vhd_import.proofs.FrontLaws.{count-more, more-read, none-read, refused-says}

last-sector : (front : File) (s : List ℕ) (k : ℕ) → length front ≡ k → sector_at (front ++ s ∷ []) k ≡ s
last-sector front s k long = let e : k ≡ length front + 0 = omega (arith, long) in ap (sector_at (front ++ s ∷ [])) e ∙ get_or-append-add front (s ∷ []) 0 []

-- ---- the first sector

module _ (t : Target) (had left : Option (List ℕ)) (first : List ℕ) (size : ℕ) (full : length first ≡ 512) (begins : BeginsSo (Dynamic size) (first ∷ [])) (takes : Takes had first left) where
  -- it denies the file where the disk is too large
  pub large-says : is_too_large t size ≡ true → FaultSays t had (fault.Refused BadSize)
  large-says large = refused-says t had had left [] [] first BadSize (none-read t had) full (omega arith) takes (large-begin t (first ∷ []) size begins.0 begins.1 large)

  -- or an image without slots has no room
  pub begin-says : (r : Refusal) → is_too_large t size ≡ false → begin_lacks t ≡ Some r → FaultSays t had (fault.Refused r)
  begin-says r fits room = refused-says t had had left [] [] first r (none-read t had) full (omega arith) takes (begin-denial t (first ∷ []) size begins.0 begins.1 fits ∙ room)

  pub begun-read : is_too_large t size ≡ false → begin_lacks t ≡ None → HasBegun t had left (first ∷ []) [] size
  begun-read fits room = record {
    read = more-read t had had left [] [] [] first (none-read t had) full (omega arith) takes (begin-denial t (first ∷ []) size begins.0 begins.1 fits ∙ room)
        (ap (λ (o : Option Put). cons_option o []) (sym (early-none (first ∷ []) 0 begins.0 (omega arith))));
    long = refl;
    dynamic = begins.0;
    sized = begins.1;
  }

-- ---- the header

pub open-first : (t : Target) (had left : Option (List ℕ)) (front : File) (puts : List Put) (size : ℕ) → HasBegun t had left front puts size → IsOpen front
open-first t had left front puts size w = open-early front w.dynamic (omega (arith, w.long))

module _ (t : Target) (had m0 m1 : Option (List ℕ)) (front : File) (puts : List Put) (size : ℕ) (w : HasBegun t had m0 front puts size) (first : List ℕ) (full : length first ≡ 512) (takes : Takes m0 first m1) where
  abbrev pub one : File
  one = front ++ first ∷ []

  pub one-long : length one ≡ 2
  one-long = omega (arith, count-more front first, w.long)

  one-dynamic : (is_dynamic one ≡ true) × (size_at one ≡ size)
  one-dynamic = dynamic-more front (first ∷ []) size (omega (arith, w.long)) w.dynamic w.sized

  pub first-read : HasRead t had m1 one puts
  first-read =
      more-read t had m0 m1 front puts puts first w.read full (omega (arith, w.long)) takes (ap (denial_at t one) w.long ∙ second-denial t one one-dynamic.0)
      (ap (λ (o : Option Put). cons_option o puts) (sym (ap (put_at one) w.long ∙ early-none one 1 one-dynamic.0 (omega arith))))

  pub open-second : IsOpen one
  open-second = open-early one one-dynamic.0 (omega (arith, one-long))

  module _ (m2 : Option (List ℕ)) (second : List ℕ) (whole : length second ≡ 512) (after : Takes m1 second m2) where
    abbrev pub two : File
    two = one ++ second ∷ []

    pub two-dynamic : (is_dynamic two ≡ true) × (size_at two ≡ size)
    two-dynamic = dynamic-more one (second ∷ []) size (omega (arith, one-long)) one-dynamic.0 one-dynamic.1

    pub here : (header : List ℕ) → header ≡ first ++ second → sector_at two 1 ++ sector_at two 2 ≡ header
    here header is =
        let a : sector_at two 1 ≡ first = get_or-append one (second ∷ []) [] 1 (omega (arith, one-long)) ∙ last-sector front first 1 w.long in
        let b : sector_at two 2 ≡ second = last-sector one second 2 one-long in
        ap (λ x. x ++ sector_at two 2) a ∙ ap (λ x. first ++ x) b ∙ sym is

    -- the header denies the file
    pub header-says : (r : Refusal) → denial_at t two 2 ≡ Some r → FaultSays t had (fault.Refused r)
    header-says r is = refused-says t had m1 m2 one puts second r first-read whole (omega (arith, one-long)) after (ap (denial_at t two) one-long ∙ is)

    -- or gives its numbers
    pub header-read : (n : FileNumbers) → layout_at two ≡ Some (layout_by n) → HasHeader t had m2 front puts size n
    header-read n at =
        let known : IsKnown two (layout_by n) size = record { dynamic = two-dynamic.0; layout = at; sized = two-dynamic.1 } in
        let same : two ≡ front ++ (first ∷ second ∷ []) = append_assoc front (first ∷ []) (second ∷ []) in
        record {
          more = first ∷ second ∷ [];
          read = subst (λ x. HasRead t had m2 x puts) same
              (more-read t had m1 m2 one puts puts second first-read whole (omega (arith, one-long)) after (ap (denial_at t two) one-long ∙ third-denial t two (layout_by n) size known)
              (ap (λ (o : Option Put). cons_option o puts) (sym (ap (put_at two) one-long ∙ early-none two 2 two-dynamic.0 (omega arith)))));
          known = subst (λ x. IsKnown x (layout_by n) size) same known;
          long = ap (λ (x : File). length x) (sym same) ∙ omega (arith, count-more one second, one-long);
        }

-- ---- up to the table

module _ (t : Target) (had left : Option (List ℕ)) (front : File) (puts : List Put) (size : ℕ) (n : FileNumbers) (h : HasHeader t had left front puts size n) where
  pub quiet-head : IsQuiet t (front ++ h.more) n.table
  quiet-head = quiet-table t (front ++ h.more) (layout_by n) size (omega (arith, h.long)) h.known

  pub open-head : IsOpenUntil (front ++ h.more) n.table
  open-head = λ more less. open-table (front ++ h.more) (layout_by n) size (omega (arith, h.long)) h.known more (omega (arith, less))

  module _ (now : Option (List ℕ)) (more : File) (read : HasRead t had now ((front ++ h.more) ++ more) puts) (long : length ((front ++ h.more) ++ more) ≡ n.table) where
    pub before-table : IsBeforeTable t had now ((front ++ h.more) ++ more) puts (layout_by n) size
    before-table = record { read = read; known = known-more (front ++ h.more) more (layout_by n) size (omega (arith, h.long)) h.known; long = long }

    pub places-front : (left : Option (List ℕ)) (entries : List Entry) → HasPlaces t had left ((front ++ h.more) ++ more) puts (layout_by n) size entries → HasPlaces t had left front puts (layout_by n) size entries
    places-front left entries p =
        let same : ((front ++ h.more) ++ more) ++ p.more ≡ front ++ ((h.more ++ more) ++ p.more) = ap (λ (x : File). x ++ p.more) (append_assoc front h.more more) ∙ append_assoc front (h.more ++ more) p.more in
        record { more = (h.more ++ more) ++ p.more; before = subst (λ x. IsBeforeBlocks t had left x puts (layout_by n) size entries) same p.before }
