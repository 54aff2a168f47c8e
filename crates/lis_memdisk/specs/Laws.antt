-- What moments, images and states always keep. The laws of a disk are proved from these.
use Rattle.std.specs.Prelude.{◌≡◌, ℕ, ◌+◌, ◌≤◌, nat_le, List, [], ◌∷◌, length, IsTrue, Some, unwrap_or, refl}
use Rattle.std.specs.List.{list_all}
use Rattle.std.proofs.Common.{sym, ◌∙◌, ap, subst, inl, inr, arith}
use Rattle.std.proofs.lemmas.Bool.{and_parts, and_from, leb-true}
use Rattle.lis_ports.specs.Meaning.{Now}
use Rattle.lis_ports.proofs.Parts.{torn-put, length-put}
use Rattle.lis_memdisk.specs.Changes.{Deed, Change, Medium, fresh, bytes_of, after, replay, IsImage, IsLeft, time_of, Moment}
use Rattle.lis_memdisk.specs.Changes.Deed.{Writes, Syncs, Shows}
use Rattle.lis_memdisk.specs.Seen.{Seen, Faults, now_of, clock_of, meaning, is_within, IsSoundSeen}

-- The last state is a moment since any time.
pub moment_last : (t : ℕ) (s : Medium) (cs : List Change) (image bytes : List ℕ) → IsLeft (replay s cs) image bytes → Moment t s cs image bytes
moment_last t s [] image bytes is = is
moment_last t s (c ∷ cs) image bytes is = inr (moment_last t (after s c.deed) cs image bytes is)

-- If no change came after a time, a moment since that time is one of the last state.
pub moment_now : (t : ℕ) (s : Medium) (cs : List Change) (image bytes : List ℕ) → IsTrue (list_all (λ c. nat_le (time_of c) t) cs) → Moment t s cs image bytes → IsLeft (replay s cs) image bytes
moment_now t s [] image bytes past is = is
moment_now t s (c ∷ cs) image bytes past is =
    let parts = and_parts (nat_le (time_of c) t) (list_all (λ c. nat_le (time_of c) t) cs) past in
    elim is as (λ _. IsLeft (replay (after s c.deed) cs) image bytes) [
      | inl early ↦ let le : time_of c ≤ t = leb-true (time_of c) t parts.0 in absurd (omega (arith, early.0, le))
      | inr later ↦ moment_now t (after s c.deed) cs image bytes parts.1 later
    ]

pub moment_earlier : (t u : ℕ) (s : Medium) (cs : List Change) (image bytes : List ℕ) → t ≤ u → Moment u s cs image bytes → Moment t s cs image bytes
moment_earlier t u s [] image bytes le is = is
moment_earlier t u s (c ∷ cs) image bytes le is =
    elim is as (λ _. Moment t s (c ∷ cs) image bytes) [
      | inl early ↦ inl (omega (arith, early.0, le), early.1)
      | inr later ↦ inr (moment_earlier t u (after s c.deed) cs image bytes le later)
    ]

-- The disk has n bytes, and so has each image. The disk reads as an image.
pub record IsWhole (n : ℕ) (s : Medium) : Type 0 where
  pub len : length (bytes_of s) ≡ n
  pub fits : IsTrue (list_all (λ w. nat_le (w.place + length w.bytes) n) s.unsynced)
  pub reads : IsImage s.unsynced s.synced (bytes_of s)
  pub images : (image : List ℕ) → IsImage s.unsynced s.synced image → length image ≡ n

pub whole_after : (n : ℕ) (s : Medium) (deed : Deed) → IsWhole n s → IsTrue (is_within n deed) → IsWhole n (after s deed)
whole_after n s (Writes place bytes) whole within =
    let le : place + length bytes ≤ n = leb-true (place + length bytes) n within in
    let fits : place + length bytes ≤ length (bytes_of s) = omega (arith, whole.len, le) in
    record {
      len = length-put (bytes_of s) place bytes fits ∙ whole.len;
      fits = and_from (nat_le (place + length bytes) n) (list_all (λ w. nat_le (w.place + length w.bytes) n) s.unsynced) within whole.fits;
      reads = (bytes_of s, whole.reads, torn-put (bytes_of s) place bytes fits);
      images = λ image is. is.2.len ∙ whole.images is.0 is.1;
    }
whole_after n s Syncs whole within = record {
  len = whole.len;
  fits = refl;
  reads = refl;
  images = λ image is. ap length is ∙ whole.len;
}
whole_after n s (Shows piece) whole within = record {
  len = whole.len;
  fits = whole.fits;
  reads = whole.reads;
  images = whole.images;
}

pub whole_replay : (n : ℕ) (s : Medium) (cs : List Change) → IsWhole n s → IsTrue (list_all (λ c. is_within n c.deed) cs) → IsWhole n (replay s cs)
whole_replay n s [] whole within = whole
whole_replay n s (c ∷ cs) whole within =
    let parts = and_parts (is_within n c.deed) (list_all (λ c. is_within n c.deed) cs) within in
    whole_replay n (after s c.deed) cs (whole_after n s c.deed whole parts.0) parts.1

pub whole_fresh : (start : List ℕ) → IsWhole (length start) (fresh start)
whole_fresh start = record { len = refl; fits = refl; reads = refl; images = λ image is. ap length is }

-- The disk has as many bytes as at its start.
pub whole_start : (s : Seen) → IsSoundSeen s → length s.start ≡ length s.bytes
whole_start s sound =
    sym (whole_replay (length s.start) (fresh s.start) s.changes (whole_fresh s.start) sound.within).len ∙ ap length sound.reads

-- What is sound is whole.
pub whole_of : (s : Seen) → IsSoundSeen s → IsWhole (length s.bytes) (now_of s)
whole_of s sound = subst (λ n. IsWhole n (now_of s)) (whole_start s sound)
    (whole_replay (length s.start) (fresh s.start) s.changes (whole_fresh s.start) sound.within)

some_same : (xs ys : List ℕ) → Some xs ≡ Some ys → xs ≡ ys
some_same xs ys e = ap (λ o. unwrap_or o []) e

-- if a record is kept, it is sound
abbrev pub Sound : Seen → Type 0
Sound s = IsTrue s.is_kept → IsSoundSeen s

pub now_counts : (s : Seen) (f : Faults) → Sound s → (t : ℕ) (image bytes : List ℕ) → IsTrue s.is_kept → Now (meaning s f) image bytes → (meaning s f).moments t image bytes
now_counts s f sound t image bytes kept now =
    (kept, moment_last t (fresh s.start) s.changes image bytes (now.0.1, sym (some_same s.shown bytes now.1) ∙ sym (sound kept).shows))

pub now_only : (s : Seen) (f : Faults) → Sound s → (image bytes : List ℕ) → (meaning s f).moments (clock_of s) image bytes → Now (meaning s f) image bytes
now_only s f sound image bytes moment =
    let left = moment_now (clock_of s) (fresh s.start) s.changes image bytes (sound moment.0).past moment.1 in
    ((moment.0, left.0), ap (λ xs. Some xs) (sym (left.1 ∙ (sound moment.0).shows)))

pub earlier : (s : Seen) (f : Faults) (t u : ℕ) (image bytes : List ℕ) → t ≤ u → (meaning s f).moments u image bytes → (meaning s f).moments t image bytes
earlier s f t u image bytes le moment = (moment.0, moment_earlier t u (fresh s.start) s.changes image bytes le moment.1)

pub image_reads : (s : Seen) (f : Faults) → Sound s → IsTrue s.is_kept → (meaning s f).images s.bytes
image_reads s f sound kept =
    (kept, subst (IsImage (now_of s).unsynced (now_of s).synced) (sound kept).reads (whole_of s (sound kept)).reads)

pub image_length : (s : Seen) (f : Faults) → Sound s → (image : List ℕ) → (meaning s f).images image → length image ≡ length s.bytes
image_length s f sound image is = (whole_of s (sound is.0)).images image is.1
