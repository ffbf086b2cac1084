pub mod AgreementLines
pub mod HeadReads
pub mod Parted
pub mod Cuts
pub mod AddressForm
pub mod Counted
pub mod Settled
