-- The drivers' examples, in one table under one statement: each row is an equation of the definitions that the contracts cite, found by computing.
use Rattle.std.specs.Prelude.{ℕ, ◌+◌, ◌≡◌, refl, List, [], ◌∷◌, ◌++◌, replicate, Some}
use Rattle.answer.specs.Number.{number_of}
use Rattle.varint.specs.Numbers.{read_number, encode, encoded_size, number}
use Rattle.lists.specs.declared.AddressEntry.{AddressEntry}
use Rattle.lists.specs.declared.RouteRange.{RouteRange}
use Rattle.lists.specs.Rules.{sound_entry, sound_range, in_order}
use Rattle.lists.specs.Words.{pack_entries, pack_ranges, entry_at, range_at, entries_of, ranges_of, sound_addresses, sound_routes}
use Rattle.capsule.specs.Elements.{parse, elements_in}
use Rattle.capsule.specs.Entries.{read_entry, read_body, read_range, entry_follows, range_follows}
use Rattle.capsule.specs.Capsules.{Reading, refused, capsule, assign, advertise, read_capsule, read_value, frame_of}
use Rattle.inet.specs.Sum.{words, fold}
use Rattle.inet.specs.Packet.{form, form4, form6, source_of, destination_of, protocol_of, protocol_byte, is_icmp, hop_place, hops_of, put16, header_check, lowered4, lowered}
use Rattle.inet.specs.Transport.{address_words, seed, field_is, sent, finish, completion}
use Rattle.policy.specs.Granted.{flow_of, covers, admits, passes, sound_side}
use Rattle.table.specs.Templates.{Template, sum_at}
use Rattle.table.specs.Rules.{template_fault, plan_fault, sound_templates}
use Rattle.table.specs.Words.{pack_table, template_of, templates_of, words_at}
use Rattle.table.specs.File.{found, number_in, two_in, bytes_in, piece_in, pieces_in, sum_in, body_in, template_in, templates_in, plan_in}
use Rattle.state.specs.State.{State, sound_state, sending_granted, state_in}
use Rattle.exchange.specs.Reading.{received, reading_in}
use Rattle.template.specs.Pieces.{fits_pieces, strip}
use Rattle.template.specs.Fits.{fits, first_fit}
use Rattle.template.specs.Datagrams.{short_form, full_form, datagram}
use Rattle.tunnel.specs.Tunnel.{send_tests, send_verdict, sent_bytes}
use Rattle.tunnel.specs.Answers.{send_answer, send_output, datagram_of}

-- 192.0.2.x/prefix, for request 0
abbrev host : ℕ → ℕ → AddressEntry
host x prefix = record { request_id = record { 0 = 0 }; version = 4; prefix = prefix; hi = 0; lo = 0xc0000200 + x }

-- 198.51.100.a to 198.51.100.b for a protocol
abbrev hosts : ℕ → ℕ → ℕ → RouteRange
hosts a b protocol =
    record {
      version = 4;
      protocol = protocol;
      start_hi = 0;
      start_lo = 0xc6336400 + a;
      end_hi = 0;
      end_lo = 0xc6336400 + b;
    }

-- the bytes of such a range
abbrev range_of : ℕ → ℕ → ℕ → List ℕ
range_of a b protocol = 4 ∷ 0xc6 ∷ 0x33 ∷ 0x64 ∷ a ∷ 0xc6 ∷ 0x33 ∷ 0x64 ∷ b ∷ protocol ∷ []

-- the number that a reading gives back
abbrev answered : Reading → ℕ
answered (refused r) = number_of r
answered (capsule c start size) = 0

-- the state of the examples: 192.0.2.3 may send UDP to 198.51.100.2
abbrev near : List Template → State
near ts =
    record {
      received = record { addresses = host 3 32 ∷ []; routes = hosts 2 2 17 ∷ [] };
      given = record { addresses = []; routes = [] };
      templates = ts;
    }

-- the same in words, without templates
unfoldable pub held : List ℕ
held = pack_entries (host 3 32 ∷ []) ++ (pack_ranges (hosts 2 2 17 ∷ []) ++ (pack_entries [] ++ (pack_ranges [] ++ pack_table [])))

-- the drivers' packet with a hop count, a header checksum and a UDP checksum
abbrev udp : ℕ → ℕ → ℕ → ℕ → ℕ → List ℕ
udp ttl a b c d =
    0x45 ∷ 0x00 ∷ 0x00 ∷ 0x1c ∷ 0x00 ∷ 0x00 ∷ 0x00 ∷ 0x00 ∷ ttl ∷ 0x11 ∷ a ∷ b ∷ 0xc0 ∷ 0x00 ∷ 0x02 ∷ 0x03 ∷ 0xc6 ∷ 0x33 ∷ 0x64 ∷ 0x02 ∷ 0x03
    ∷ 0xe8 ∷ 0x07 ∷ 0xd0 ∷ 0x00 ∷ 0x08 ∷ c ∷ d ∷ []

-- the drivers' plan file
abbrev file : List ℕ
file =
    0x56 ∷ 0x41 ∷ 0x4e ∷ 0x00 ∷ 0x01 ∷ 0x01 ∷ 0x02 ∷ 0x01 ∷ 0x0c ∷ 0x0c ∷ 0xc0 ∷ 0x00 ∷ 0x02 ∷ 0x03 ∷ 0xc6 ∷ 0x33 ∷ 0x64 ∷ 0x02 ∷ 0x03 ∷ 0xe8
    ∷ 0x07 ∷ 0xd0 ∷ 0x01 ∷ 0x1a ∷ 0x14 ∷ []

-- the template that it holds
abbrev drivers : Template
drivers =
    record {
      id = 2;
      pieces = record { offset = 12; bytes = 0xc0 ∷ 0x00 ∷ 0x02 ∷ 0x03 ∷ 0xc6 ∷ 0x33 ∷ 0x64 ∷ 0x02 ∷ 0x03 ∷ 0xe8 ∷ 0x07 ∷ 0xd0 ∷ [] } ∷ [];
      sum = sum_at 26 20;
    }

-- what is sent of a packet under some templates, to an output of 1,508 zeros
abbrev sent_under : List Template → List ℕ → List ℕ
sent_under ts p = datagram_of (near ts) p (replicate 1508 0)

pub record DriversExamples : Type 0 where
  -- 25 and 4025 are 37; 7bbd is 15,293
  pub number-one : read_number (0x25 ∷ []) ≡ Some (number 37 1)
  pub number-longer : read_number (0x40 ∷ 0x25 ∷ []) ≡ Some (number 37 2)
  pub number-two : read_number (0x7b ∷ 0xbd ∷ []) ≡ Some (number 15293 2)
  -- 01 07 00 04 C0 00 02 03 20 assigns 192.0.2.3/32
  pub assigns : read_capsule (0x01 ∷ 0x07 ∷ 0x00 ∷ 0x04 ∷ 0xc0 ∷ 0x00 ∷ 0x02 ∷ 0x03 ∷ 0x20 ∷ []) ≡ capsule (assign (host 3 32 ∷ [])) 2 9
  -- 01 00 empties the list; 02 00 is 6
  pub empties : (state_in (received held (reading_in held (0x01 ∷ 0x00 ∷ []) 0))).received.addresses ≡ []
  pub empty-request : answered (read_capsule (0x02 ∷ 0x00 ∷ [])) ≡ 6
  -- 192.0.2.0/24 is taken; 192.0.2.1/24 is 3
  pub prefix-taken : read_capsule (0x01 ∷ 0x07 ∷ 0x00 ∷ 0x04 ∷ 0xc0 ∷ 0x00 ∷ 0x02 ∷ 0x00 ∷ 0x18 ∷ []) ≡ capsule (assign (host 0 24 ∷ [])) 2 9
  pub prefix-refused : answered (read_capsule (0x01 ∷ 0x07 ∷ 0x00 ∷ 0x04 ∷ 0xc0 ∷ 0x00 ∷ 0x02 ∷ 0x01 ∷ 0x18 ∷ [])) ≡ 3
  -- 03 0A 04 C6 33 64 02 C6 33 64 02 11 is UDP to 198.51.100.2
  pub udp_route : read_capsule (0x03 ∷ 0x0a ∷ range_of 2 2 0x11) ≡ capsule (advertise (hosts 2 2 17 ∷ [])) 2 12
  -- same protocol, last bytes 2 to 9 then 10 to 12: taken; 2 to 9 then 9 to 12: 5
  pub in_order_lem : read_capsule (0x03 ∷ 0x14 ∷ (range_of 2 9 0x11 ++ range_of 10 12 0x11)) ≡ capsule (advertise (hosts 2 9 17 ∷ hosts 10 12 17 ∷ [])) 2 22
  pub overlapping : answered (read_capsule (0x03 ∷ 0x14 ∷ (range_of 2 9 0x11 ++ range_of 9 12 0x11))) ≡ 5
  -- protocol 17 followed by protocol 0, same version: 5
  pub protocol-order : answered (read_capsule (0x03 ∷ 0x14 ∷ (range_of 2 9 0x11 ++ range_of 10 12 0x00))) ≡ 5
  -- the packet, granted: the TTL becomes 3F, the checksum 8F 98
  pub packet-lowered : sent_under [] (udp 0x40 0x8e 0x98 0x07 0xed) ≡ 0x00 ∷ udp 0x3f 0x8f 0x98 0x07 0xed
  -- under the plan that packet goes as 02 45 00 00 1C 00 00 00 00 3F 11 8F 98 00 08 EC 52
  pub plan-read : plan_in file ≡ found (drivers ∷ []) []
  pub packet-short : sent_under (drivers ∷ []) (udp 0x40 0x8e 0x98 0x07 0xed)
      ≡ 0x02 ∷ 0x45 ∷ 0x00 ∷ 0x00 ∷ 0x1c ∷ 0x00 ∷ 0x00 ∷ 0x00 ∷ 0x00 ∷ 0x3f ∷ 0x11 ∷ 0x8f ∷ 0x98 ∷ 0x00 ∷ 0x08 ∷ 0xec ∷ 0x52 ∷ []
  -- the same with UDP checksum 07 EE, or 00 00: sent in full
  pub packet-damaged : sent_under (drivers ∷ []) (udp 0x40 0x8e 0x98 0x07 0xee) ≡ 0x00 ∷ udp 0x3f 0x8f 0x98 0x07 0xee
  pub packet_without : sent_under (drivers ∷ []) (udp 0x40 0x8e 0x98 0x00 0x00) ≡ 0x00 ∷ udp 0x3f 0x8f 0x98 0x00 0x00

pub examples_hold : DriversExamples
unfolding read_number encode encoded_size sound_entry sound_range in_order pack_entries pack_ranges entry_at range_at entries_of ranges_of sound_addresses sound_routes parse elements_in read_entry read_body read_range entry_follows range_follows read_capsule read_value frame_of words fold form form4 form6 source_of destination_of protocol_of protocol_byte is_icmp hop_place hops_of put16 header_check lowered4 lowered address_words seed field_is sent finish completion flow_of covers admits passes sound_side template_fault plan_fault sound_templates pack_table template_of templates_of words_at number_in two_in bytes_in piece_in pieces_in sum_in body_in template_in templates_in plan_in sound_state sending_granted reading_in fits_pieces strip fits first_fit short_form full_form datagram send_tests send_verdict sent_bytes send_answer send_output held
examples_hold =
    record {
      number-one = refl;
      number-longer = refl;
      number-two = refl;
      assigns = refl;
      empties = refl;
      empty-request = refl;
      prefix-taken = refl;
      prefix-refused = refl;
      udp_route = refl;
      in_order_lem = refl;
      overlapping = refl;
      protocol-order = refl;
      packet-lowered = refl;
      plan-read = refl;
      packet-short = refl;
      packet-damaged = refl;
      packet_without = refl;
    }
