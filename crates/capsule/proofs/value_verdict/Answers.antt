-- Each return is a case of `value_verdict`, by the kind.
use Rattle.capsule.proofs.ValueCases as Value
use Rattle.capsule.proofs.value_verdict.Goals as goal

pub returns-in-AddressAssign : goal.returns-in-AddressAssign
returns-in-AddressAssign c = Value.assign-verdict _ c.in-AddressAssign.is c.entries_into.ensures

pub returns-in-AddressRequest : goal.returns-in-AddressRequest
returns-in-AddressRequest c = Value.request-verdict _ c.in-AddressRequest.is c.entries_into-in-AddressRequest.ensures

pub returns-in-RouteAdvertisement : goal.returns-in-RouteAdvertisement
returns-in-RouteAdvertisement c = Value.advertise-verdict _ c.in-RouteAdvertisement.is c.ranges_into.ensures

pub returns-in-Datagram : goal.returns-in-Datagram
returns-in-Datagram c = Value.no_list_verdict _ c.in-Datagram.is
