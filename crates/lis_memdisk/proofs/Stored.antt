-- The stored record, as bytes and events are added to it.
use Rattle.std.proofs.Common.{◌≡◌, ℕ, ◌+◌, ◌≤◌, true, ◌&&◌, List, [], ◌∷◌, ◌++◌, length, take, drop, IsTrue, refl, sym, ◌∙◌, ap, arith, append-nil, subst, length-append, length-drop}
use Rattle.std.proofs.lemmas.Bool.{and_parts, and_from, leb-true, le-leb}
use Rattle.std.proofs.lemmas.List.{take-append-le, drop-append-le, drop_at, take_all, map-append}
use Rattle.std.proofs.lemmas.List.Folds.{list_all-append}
use Rattle.lis_ports.specs.Bytes.{part}
use Rattle.lis_memdisk.specs.declared.event.Kind.{Kind}
use Rattle.lis_memdisk.specs.declared.event.Kind.TheVariants.{Write, Sync, Show}
use Rattle.lis_memdisk.specs.declared.event.Event.{Event}
use Rattle.lis_memdisk.specs.Changes.{Deed}
use Rattle.lis_memdisk.specs.Changes.Deed.{Writes, Syncs, Shows}
use Rattle.lis_memdisk.specs.Event.{deed_of, change_of, changes_of, is_in, has_bytes, all_stored}

-- what is stored stays where it is
part-append : (at n : ℕ) (xs ys : List ℕ) → at + n ≤ length xs → part at n (xs ++ ys) ≡ part at n xs
part-append at n xs ys le =
    ap (take n) (drop-append-le at xs ys (omega arith)) ∙ take-append-le n (drop at xs) ys (omega (arith, length-drop at xs))

-- and what is added follows it
pub part-added : (xs ys : List ℕ) → part (length xs) (length ys) (xs ++ ys) ≡ ys
part-added xs ys = ap (take (length ys)) (drop_at xs ys (length xs) refl) ∙ take_all (length ys) ys (omega arith)

deed-append : (given shown gs ss : List ℕ) (kind : Kind) → IsTrue (has_bytes (length given) (length shown) kind) → deed_of (given ++ gs) (shown ++ ss) kind ≡ deed_of given shown kind
deed-append given shown gs ss (Write place span) is_in =
    ap (Writes place) (part-append span.from span.len given gs (leb-true (span.from + span.len) (length given) is_in))
deed-append given shown gs ss Sync is_in = refl
deed-append given shown gs ss (Show span) is_in =
    ap Shows (part-append span.from span.len shown ss (leb-true (span.from + span.len) (length shown) is_in))

changes-append : (given shown gs ss : List ℕ) (events : List Event) → IsTrue (all_stored (length given) (length shown) events) → changes_of (given ++ gs) (shown ++ ss) events ≡ changes_of given shown events
changes-append given shown gs ss [] stored = refl
changes-append given shown gs ss (e ∷ es) stored =
    let parts = and_parts (has_bytes (length given) (length shown) e.kind) (all_stored (length given) (length shown) es) stored in
    ap (λ deed. record { calls = e.calls; shows = e.shows; deed = deed } ∷ changes_of (given ++ gs) (shown ++ ss) es) (deed-append given shown gs ss e.kind parts.0)
    ∙ ap (λ cs. change_of given shown e ∷ cs) (changes-append given shown gs ss es parts.1)

-- one more event is one more change
pub changes-push : (given shown gs ss : List ℕ) (events : List Event) (e : Event) (deed : Deed) → IsTrue (all_stored (length given) (length shown) events) → deed_of (given ++ gs) (shown ++ ss) e.kind ≡ deed → changes_of (given ++ gs) (shown ++ ss) (events ++ e ∷ []) ≡ changes_of given shown events ++ record { calls = e.calls; shows = e.shows; deed = deed } ∷ []
changes-push given shown gs ss events e deed stored is =
    map-append (change_of (given ++ gs) (shown ++ ss)) events (e ∷ [])
    ∙ (ap (λ cs. cs ++ change_of (given ++ gs) (shown ++ ss) e ∷ []) (changes-append given shown gs ss events stored)
    ∙ ap (λ d. changes_of given shown events ++ record { calls = e.calls; shows = e.shows; deed = d } ∷ []) is)

has_bytes-more : (g g' s s' : ℕ) (kind : Kind) → g ≤ g' → s ≤ s' → IsTrue (has_bytes g s kind) → IsTrue (has_bytes g' s' kind)
has_bytes-more g g' s s' (Write place span) le_g le_s has =
    let le : span.from + span.len ≤ g = leb-true (span.from + span.len) g has in le-leb (span.from + span.len) g' (omega arith)
has_bytes-more g g' s s' Sync le_g le_s has = refl
has_bytes-more g g' s s' (Show span) le_g le_s has =
    let le : span.from + span.len ≤ s = leb-true (span.from + span.len) s has in le-leb (span.from + span.len) s' (omega arith)

pub stored-more : (g g' s s' : ℕ) (events : List Event) → g ≤ g' → s ≤ s' → IsTrue (all_stored g s events) → IsTrue (all_stored g' s' events)
stored-more g g' s s' [] le_g le_s stored = refl
stored-more g g' s s' (e ∷ es) le_g le_s stored =
    let parts = and_parts (has_bytes g s e.kind) (all_stored g s es) stored in
    and_from (has_bytes g' s' e.kind) (all_stored g' s' es) (has_bytes-more g g' s s' e.kind le_g le_s parts.0) (stored-more g g' s s' es le_g le_s parts.1)

pub stored-push : (g g' s s' : ℕ) (events : List Event) (e : Event) → g ≤ g' → s ≤ s' → IsTrue (all_stored g s events) → IsTrue (has_bytes g' s' e.kind) → IsTrue (all_stored g' s' (events ++ e ∷ []))
stored-push g g' s s' events e le_g le_s stored has =
    list_all-append (λ e. has_bytes g' s' e.kind) events (e ∷ [])
    ∙ and_from (all_stored g' s' events) (has_bytes g' s' e.kind && true) (stored-more g g' s s' events le_g le_s stored) (and_from (has_bytes g' s' e.kind) true has refl)

-- A write is noted, with its bytes after those of earlier writes.
pub noted_write : (given shown given' bytes : List ℕ) (events events' : List Event) (calls shows place from : ℕ) → IsTrue (all_stored (length given) (length shown) events) → given' ≡ given ++ bytes → from ≡ length given → events' ≡ events ++ record { calls = calls; shows = shows; kind = Write place (record { from = from; len = length bytes }) } ∷ [] → changes_of given' shown events' ≡ changes_of given shown events ++ record { calls = calls; shows = shows; deed = Writes place bytes } ∷ []
noted_write given shown given' bytes events events' calls shows place from stored is_given is_from is_events =
    ap (λ gs. changes_of gs shown events') is_given
    ∙ (ap (λ ss. changes_of (given ++ bytes) ss events') (sym (append-nil shown))
    ∙ (ap (changes_of (given ++ bytes) (shown ++ [])) is_events
    ∙ changes-push given shown bytes [] events (record { calls = calls; shows = shows; kind = Write place (record { from = from; len = length bytes }) }) (Writes place bytes) stored
    (ap (λ k. Writes place (part k (length bytes) (given ++ bytes))) is_from ∙ ap (Writes place) (part-added given bytes))))

pub stored_write : (given shown given' bytes : List ℕ) (events events' : List Event) (calls shows place from : ℕ) → IsTrue (all_stored (length given) (length shown) events) → given' ≡ given ++ bytes → from ≡ length given → events' ≡ events ++ record { calls = calls; shows = shows; kind = Write place (record { from = from; len = length bytes }) } ∷ [] → IsTrue (all_stored (length given') (length shown) events')
stored_write given shown given' bytes events events' calls shows place from stored is_given is_from is_events =
    let len : length given' ≡ length given + length bytes = ap length is_given ∙ length-append given bytes in
    subst (λ es. IsTrue (all_stored (length given') (length shown) es)) (sym is_events)
    (stored-push (length given) (length given') (length shown) (length shown) events _ (omega arith) (omega arith) stored (le-leb (from + length bytes) (length given') (omega arith)))

-- A sync is noted.
pub noted_sync : (given shown : List ℕ) (events events' : List Event) (calls shows : ℕ) → IsTrue (all_stored (length given) (length shown) events) → events' ≡ events ++ record { calls = calls; shows = shows; kind = Sync } ∷ [] → changes_of given shown events' ≡ changes_of given shown events ++ record { calls = calls; shows = shows; deed = Syncs } ∷ []
noted_sync given shown events events' calls shows stored is_events =
    ap (λ gs. changes_of gs shown events') (sym (append-nil given))
    ∙ (ap (λ ss. changes_of (given ++ []) ss events') (sym (append-nil shown))
    ∙ (ap (changes_of (given ++ []) (shown ++ [])) is_events
    ∙ changes-push given shown [] [] events (record { calls = calls; shows = shows; kind = Sync }) Syncs stored refl))

pub stored_sync : (given shown : List ℕ) (events events' : List Event) (calls shows : ℕ) → IsTrue (all_stored (length given) (length shown) events) → events' ≡ events ++ record { calls = calls; shows = shows; kind = Sync } ∷ [] → IsTrue (all_stored (length given) (length shown) events')
stored_sync given shown events events' calls shows stored is_events =
    subst (λ es. IsTrue (all_stored (length given) (length shown) es)) (sym is_events)
    (stored-push (length given) (length given) (length shown) (length shown) events _ (omega arith) (omega arith) stored refl)

-- What was shown is noted, after what was shown before.
pub noted_show : (given shown shown' piece : List ℕ) (events events' : List Event) (calls shows from : ℕ) → IsTrue (all_stored (length given) (length shown) events) → shown' ≡ shown ++ piece → from ≡ length shown → events' ≡ events ++ record { calls = calls; shows = shows; kind = Show (record { from = from; len = length piece }) } ∷ [] → changes_of given shown' events' ≡ changes_of given shown events ++ record { calls = calls; shows = shows; deed = Shows piece } ∷ []
noted_show given shown shown' piece events events' calls shows from stored is_shown is_from is_events =
    ap (λ ss. changes_of given ss events') is_shown
    ∙ (ap (λ gs. changes_of gs (shown ++ piece) events') (sym (append-nil given))
    ∙ (ap (changes_of (given ++ []) (shown ++ piece)) is_events
    ∙ changes-push given shown [] piece events (record { calls = calls; shows = shows; kind = Show (record { from = from; len = length piece }) }) (Shows piece) stored
    (ap (λ k. Shows (part k (length piece) (shown ++ piece))) is_from ∙ ap Shows (part-added shown piece))))

pub stored_show : (given shown shown' piece : List ℕ) (events events' : List Event) (calls shows from : ℕ) → IsTrue (all_stored (length given) (length shown) events) → shown' ≡ shown ++ piece → from ≡ length shown → events' ≡ events ++ record { calls = calls; shows = shows; kind = Show (record { from = from; len = length piece }) } ∷ [] → IsTrue (all_stored (length given) (length shown') events')
stored_show given shown shown' piece events events' calls shows from stored is_shown is_from is_events =
    let len : length shown' ≡ length shown + length piece = ap length is_shown ∙ length-append shown piece in
    subst (λ es. IsTrue (all_stored (length given) (length shown') es)) (sym is_events)
    (stored-push (length given) (length given) (length shown) (length shown') events _ (omega arith) (omega arith) stored (le-leb (from + length piece) (length shown') (omega arith)))
