pub mod CodedTexts
