-- Each return is a case of the kind.
use Rattle.exchange.proofs.ReadCases as Read
use Rattle.exchange.proofs.reading.take_value.Goals as goal

pub returns-in-AddressAssign : goal.returns-in-AddressAssign
returns-in-AddressAssign c = Read.takes_assign _ _ _ _ c.in-AddressAssign.is c.take_list.ensures

pub returns-in-AddressRequest : goal.returns-in-AddressRequest
returns-in-AddressRequest c = Read.takes_request _ _ _ _ c.in-AddressRequest.is c.take_request.ensures

pub returns-in-RouteAdvertisement : goal.returns-in-RouteAdvertisement
returns-in-RouteAdvertisement c = Read.takes_routes _ _ _ _ c.in-RouteAdvertisement.is c.take_list-in-RouteAdvertisement.ensures

pub returns-in-Datagram : goal.returns-in-Datagram
returns-in-Datagram c = Read.takes_nothing _ _ _ _ c.in-Datagram.is
