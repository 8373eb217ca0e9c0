-- Address entries and route ranges on bytes (RFC 9484, sections 4.7.1 to 4.7.3).
use Rattle.std.specs.Prelude.{ℕ, ◌+◌, Bool, not, ◌&&◌, ◌||◌, List, [], ◌∷◌, ◌++◌, leb, eqb, length, get_or, drop, Result, Ok, Option, Some, None}
use Rattle.answer.specs.declared.Refusal.{Refusal}
use Rattle.answer.specs.declared.Refusal.TheVariants.{BadAddress, BadRange, RangesOutOfOrder, BadRequestId}
use Rattle.answer.specs.Choice.{pick}
use Rattle.answer.specs.Verdict.{stop_if}
use Rattle.octets.specs.Big.{big_at, digits}
use Rattle.varint.specs.declared.Number.{Number}
use Rattle.varint.specs.Numbers.{read_number, encode}
use Rattle.lists.specs.declared.AddressEntry.{AddressEntry}
use Rattle.lists.specs.declared.RouteRange.{RouteRange}
use Rattle.octets.specs.Scan.{any_of}
use Rattle.lists.specs.Rules.{id_of, sound_entry, sound_range, in_order, before_all}
use Rattle.capsule.specs.declared.element.EntryRead.{EntryRead}
use Rattle.capsule.specs.declared.element.RangeRead.{RangeRead}
use Rattle.capsule.specs.Elements.{Element, element, broken, Format}

-- ---- an address entry: Request ID, version, address, prefix length

abbrev pub entry4 : ℕ → List ℕ → AddressEntry
entry4 id t = record { request_id = record { 0 = id }; version = 4; prefix = get_or t 5 0; hi = 0; lo = big_at 1 4 t }

abbrev pub entry6 : ℕ → List ℕ → AddressEntry
entry6 id t = record { request_id = record { 0 = id }; version = 6; prefix = get_or t 17 0; hi = big_at 1 8 t; lo = big_at 9 8 t }

-- an entry and how many bytes it took
abbrev pub entry_read : AddressEntry → ℕ → EntryRead
entry_read e n = record { entry = e; size = n }

-- an entry of m bytes behind an ID of n, where they are all there and it keeps its rule
abbrev pub whole_entry : ℕ → ℕ → List ℕ → AddressEntry → Option EntryRead
whole_entry n m t e = pick (leb m (length t) && sound_entry e) (Some (entry_read e (n + m))) None

-- what follows a Request ID of n bytes
unfoldable pub read_body : ℕ → ℕ → List ℕ → Option EntryRead
read_body id n t =
    pick (eqb (get_or t 0 0) 4) (whole_entry n 6 t (entry4 id t)) (pick (eqb (get_or t 0 0) 6) (whole_entry n 18 t (entry6 id t)) None)

abbrev pub after_id : List ℕ → Option Number → Option EntryRead
after_id s (Some q) = read_body q.value q.size (drop q.size s)
after_id s None = None

-- the entry at the front of s
unfoldable pub read_entry : List ℕ → Option EntryRead
read_entry s = after_id s (read_number s)

abbrev pub address_bytes : AddressEntry → List ℕ
address_bytes e = pick (eqb e.version 4) (digits 4 e.lo) (digits 8 e.hi ++ digits 8 e.lo)

unfoldable pub entry_bytes : AddressEntry → List ℕ
entry_bytes e = encode (id_of e) ++ (e.version ∷ (address_bytes e ++ (e.prefix ∷ [])))

-- ---- a route range: version, start, end, protocol

abbrev pub range4 : List ℕ → RouteRange
range4 s =
    record { version = 4; protocol = get_or s 9 0; start_hi = 0; start_lo = big_at 1 4 s; end_hi = 0; end_lo = big_at 5 4 s }

abbrev pub range6 : List ℕ → RouteRange
range6 s =
    record {
      version = 6;
      protocol = get_or s 33 0;
      start_hi = big_at 1 8 s;
      start_lo = big_at 9 8 s;
      end_hi = big_at 17 8 s;
      end_lo = big_at 25 8 s;
    }

-- a range and how many bytes it took
abbrev pub range_read : RouteRange → ℕ → RangeRead
range_read r n = record { range = r; size = n }

abbrev pub whole_range : ℕ → List ℕ → RouteRange → Option RangeRead
whole_range m s r = pick (leb m (length s) && sound_range r) (Some (range_read r m)) None

-- the range at the front of s
unfoldable pub read_range : List ℕ → Option RangeRead
read_range s = pick (eqb (get_or s 0 0) 4) (whole_range 10 s (range4 s)) (pick (eqb (get_or s 0 0) 6) (whole_range 34 s (range6 s)) None)

abbrev pub ends_bytes : RouteRange → List ℕ
ends_bytes r =
    pick (eqb r.version 4) (digits 4 r.start_lo ++ digits 4 r.end_lo)
    (digits 8 r.start_hi ++ (digits 8 r.start_lo ++ (digits 8 r.end_hi ++ digits 8 r.end_lo)))

unfoldable pub range_bytes : RouteRange → List ℕ
range_bytes r = r.version ∷ (ends_bytes r ++ (r.protocol ∷ []))

-- ---- the kinds of element

abbrev pub entry_element : Option EntryRead → Element AddressEntry
entry_element (Some r) = element r.entry r.size
entry_element None = broken

abbrev pub range_element : Option RangeRead → Element RouteRange
range_element (Some r) = element r.range r.size
range_element None = broken

-- in a request the Request IDs are not zero and differ
unfoldable pub entry_follows : Bool → List AddressEntry → AddressEntry → Result Unit Refusal
entry_follows request earlier e =
    stop_if (request && (eqb (id_of e) 0 || any_of (λ d. eqb (id_of d) (id_of e)) earlier)) BadRequestId (Ok tt)

abbrev pub newest : List RouteRange → RouteRange
newest [] = before_all
newest (r ∷ rs) = r

unfoldable pub range_follows : List RouteRange → RouteRange → Result Unit Refusal
range_follows earlier r = stop_if (not (in_order (newest earlier) r)) RangesOutOfOrder (Ok tt)

-- the entries of an assignment, or of a request
abbrev pub entry_format : Bool → Format AddressEntry
entry_format request =
    record {
      read = λ s. entry_element (read_entry s);
      sound = sound_entry;
      wrong = BadAddress;
      follows = entry_follows request;
      bytes = entry_bytes;
    }

abbrev pub range_format : Format RouteRange
range_format =
    record {
      read = λ s. range_element (read_range s);
      sound = sound_range;
      wrong = BadRange;
      follows = range_follows;
      bytes = range_bytes;
    }
