-- The four parts one after the other, by `put-entry`; the bounds of the parts leave room for each. A sound entry has an ID that can be written.
use Rattle.lists.specs.Rules.{id_of}
use native.Mathlib.Omega.{arith}
use Rattle.varint.proofs.Encoding.{size-bounds}
use Rattle.lists.proofs.EntryRule.{entry_facts}
use Rattle.capsule_write.proofs.Lengths.{encode-most, address-most, put-entry}
use Rattle.capsule_write.proofs.element.AddressEntryElement.put.Goals as goal

pub put_number-version-requires : goal.put_number-version-requires
put_number-version-requires c =
    let e = c.args.self in
    record { room = omega (arith, c.requires.room, (size-bounds (id_of e)).1); value_lt_limit = (entry_facts e c.requires.sound).id }

pub put_byte-address-requires : goal.put_byte-address-requires
put_byte-address-requires c =
    omega (arith, encode-most (id_of c.args.self))

pub put_address-prefix-requires : goal.put_address-prefix-requires
put_address-prefix-requires c =
    omega (arith, encode-most (id_of c.args.self))

pub put_byte-requires : goal.put_byte-requires
put_byte-requires c =
    omega (arith, encode-most (id_of c.args.self), address-most c.args.self)

pub returns-clause-bytes : goal.returns-clause-bytes
returns-clause-bytes c =
    put-entry _ c.put_number-version.ensures c.put_byte-address.ensures c.put_address-prefix.ensures c.put_byte.ensures

pub returns-clause-bound : goal.returns-clause-bound
returns-clause-bound c =
    omega (arith, encode-most (id_of c.args.self), address-most c.args.self)
