pub mod Offers
pub mod OfferLaws
