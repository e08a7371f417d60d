-- What contents that are alike show: the same faces; and where all images are the same, the same disks.
use Rattle.std.proofs.Common.{◌≡◌, ℕ, zero, suc, ◌+◌, List, [], ◌∷◌, length, map, Option, Some, None, refl, sym, ap, ap₂, ◌∙◌}
use Rattle.std.proofs.Math.Path.{fun_ext}
use Rattle.std.specs.List.{filter_map, cons_option}
use Rattle.std.proofs.lemmas.List.{length-map}
use Rattle.sm_base.specs.declared.names.Name.{Name}
use Rattle.vg_meta.specs.Tables.{VolumeTable}
use Rattle.sm_machine.specs.Disks.{Disk}
use Rattle.common_laws.specs.Lists.{◌>>=◌, numbers}
use Rattle.sm_machine.specs.Runs.{Face, face}
use Rattle.sm_record.specs.declared.records.Record.{Record}
use Rattle.sm_standing.specs.Contents.{Content, record_of}
use Rattle.sm_standing.specs.Images.{Image, image_of, image_reads, sectors_read}
use Rattle.sm_standing.specs.Standing.{standing_volume, disk_at, disk_in, disks, uuids}
use Rattle.sm_standing.proofs.ImageLaws.{disks_as}
use Rattle.sm_standing.specs.Outlines.{Outline, Link, outline, link_of}

-- where table, images and records are the same, so are the disks
pub disks_alike : (c d : Content) → d.table ≡ c.table → ((n : Name) → image_of d n ≡ image_of c n) → ((u : List ℕ) → record_of d u ≡ record_of c u) → disks d ≡ disks c
disks_alike c d table same recorded = disks_as c d (λ u. ap (λ (t : VolumeTable). standing_volume t u) table) same recorded

-- ---- faces

abbrev option_face : Option Disk → Option Face
option_face None = None
option_face (Some d) = Some (face d)

cons-face : (o : Option Disk) (rest : List Disk) → map face (cons_option o rest) ≡ cons_option (option_face o) (map face rest)
cons-face None rest = refl
cons-face (Some d) rest = refl

map-face : (f : List ℕ → Option Disk) (us : List (List ℕ)) → map face (filter_map f us) ≡ filter_map (λ u. option_face (f u)) us
map-face f [] = refl
map-face f (u ∷ us) = cons-face (f u) (filter_map f us) ∙ ap (cons_option (option_face (f u))) (map-face f us)

-- the number of sectors of a disk in an image
abbrev size_of_link : Option Link → ℕ
size_of_link None = 0
size_of_link (Some l) = l.size

length-numbers : (a n : ℕ) → length (numbers a n) ≡ n
unfolding numbers
length-numbers a zero = refl
length-numbers a (suc n) = ap suc (length-numbers (a + 1) n)

sectors_long : (c : Content) (n : Name) → length (sectors_read c n) ≡ size_of_link (link_of (image_of c n))
unfolding sectors_read
sectors_long c n = by (image_of c n)
  where
    by : (o : Option Image) → length (elim o as (λ o. List (List ℕ)) [ None ↦ [] | Some i ↦ map (image_reads c n) (numbers 0 i.size) ]) ≡ size_of_link (link_of o)
    by None = refl
    by (Some i) = length-map (numbers 0 i.size) (image_reads c n) ∙ length-numbers 0 i.size

abbrev face_in : List ℕ → Record → ℕ → Face
face_in u r size = record { uuid = u; label = r.label; origin = r.origin; read_only = r.read_only; size = size }

-- the face of a disk, by its standing volume, its record and its image's size
faces_by : (c : Content) (u : List ℕ) → option_face (disk_at c u) ≡ (standing_volume c.table u >>= (λ n. record_of c u >>= (λ r. Some (face_in u r (size_of_link (link_of (image_of c n)))))))
unfolding disk_at
faces_by c u = by (standing_volume c.table u)
  where
    of : (n : Name) (o : Option Record) → option_face (o >>= (λ r. Some (disk_in c u r n))) ≡ (o >>= (λ r. Some (face_in u r (size_of_link (link_of (image_of c n))))))
    of n None = refl
    of n (Some r) = ap (λ k. Some (face_in u r k)) (sectors_long c n)

    by : (x : Option Name) → option_face (x >>= (λ n. record_of c u >>= (λ r. Some (disk_in c u r n)))) ≡ (x >>= (λ n. record_of c u >>= (λ r. Some (face_in u r (size_of_link (link_of (image_of c n)))))))
    by None = refl
    by (Some n) = of n (record_of c u)

pub table_same : (c d : Content) → outline d ≡ outline c → d.table ≡ c.table
table_same c d same = ap (λ (o : Outline). o.table) same

pub links_same : (c d : Content) → outline d ≡ outline c → (n : Name) → link_of (image_of d n) ≡ link_of (image_of c n)
links_same c d same n = ap (λ (o : Outline). o.links n) same

-- contents of one outline with the same records have the same faces
pub faces_alike : (c d : Content) → outline d ≡ outline c → ((u : List ℕ) → record_of d u ≡ record_of c u) → map face (disks d) ≡ map face (disks c)
unfolding disks
faces_alike c d same recorded =
    map-face (disk_at d) (uuids d.table)
    ∙ ap₂ (λ (f : List ℕ → Option Face) (t : VolumeTable). filter_map f (uuids t)) (fun_ext at) (table_same c d same)
    ∙ sym (map-face (disk_at c) (uuids c.table))
  where
    at : (u : List ℕ) → option_face (disk_at d u) ≡ option_face (disk_at c u)
    at u = faces_by d u
        ∙ ap (λ (t : VolumeTable). standing_volume t u >>= (λ n. record_of d u >>= (λ r. Some (face_in u r (size_of_link (link_of (image_of d n))))))) (table_same c d same)
        ∙ ap (λ (o : Option Record). standing_volume c.table u >>= (λ n. o >>= (λ r. Some (face_in u r (size_of_link (link_of (image_of d n))))))) (recorded u)
        ∙ ap (λ (f : Name → Option Link). standing_volume c.table u >>= (λ n. record_of c u >>= (λ r. Some (face_in u r (size_of_link (f n)))))) (fun_ext (links_same c d same))
        ∙ sym (faces_by c u)
